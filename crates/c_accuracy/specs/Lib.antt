-- Demand 3 as a caller from C finds it.
pub mod Calls
pub mod Demand
