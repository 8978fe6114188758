-- The law that the proofs of `stream` share.
pub mod Moving
pub mod Reading
