-- The laws of f64 that several crates cite.
pub mod Nonnegative
pub mod Ranges
pub mod Decimals
pub mod Zeros
pub mod Exact
pub mod Bounded
