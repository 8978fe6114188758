-- The laws of f64 in units: one rounding, each operation, and what is near.
pub mod Rounding
pub mod Parts
pub mod Units
pub mod Operations
pub mod Near
pub mod Sums
