-- The laws that the proofs of `closing` share.
pub mod Answers
