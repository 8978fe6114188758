-- The laws that the proofs of `start_of_roll` cite.
pub mod Sizes
pub mod Answering
