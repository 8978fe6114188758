-- The laws that the proofs of `method` share.
pub mod Choosing
pub mod Each
pub mod Shares
