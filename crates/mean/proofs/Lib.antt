-- The laws that the proofs of `mean` share.
pub mod Records
pub mod Totals
