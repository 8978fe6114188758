-- What the contracts of `decimal` cite: a number in decimal.
pub mod Digits
