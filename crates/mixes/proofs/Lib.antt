-- The laws that the proofs of `mixes` share.
pub mod Answering
pub mod Classes
pub mod Edges
pub mod Fits
pub mod Listing
pub mod Once
pub mod Rows
pub mod Sums
pub mod Table
