-- The laws that several proofs of land cite.
pub mod Assessing
