-- The laws that the proofs of `offering` share.
pub mod Answers
