-- The laws that the proofs of `ledger` share.
pub mod Lists
pub mod Books
pub mod Cells
