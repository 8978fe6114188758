-- The laws that the proofs of `c_planning` cite.
pub mod Filling
pub mod Runs
