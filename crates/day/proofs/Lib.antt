-- The laws that the proofs of `day` share.
pub mod Turning
pub mod Printing
