-- The laws of runs that are lent, and of arrays that are filled.
pub mod Putting
pub mod Filling
