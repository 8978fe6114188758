-- The laws of `c_reader`: that the words of a reader stand for it, that every reader that steps reach fits into them, and what a run of calls comes to.
pub mod Inverse
pub mod Reached
pub mod Running
