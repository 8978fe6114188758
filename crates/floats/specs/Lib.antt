-- What the contracts over f64 cite.
pub mod Arithmetic
