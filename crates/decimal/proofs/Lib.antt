-- The laws of a number in decimal.
pub mod Decimal
