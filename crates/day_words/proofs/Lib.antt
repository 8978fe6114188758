-- Laws that the proofs of `day_words` cite, and its own: that the words of a day stand for it, and that every day that calls reach fits into them.
pub mod Inverse
pub mod Putting
pub mod Reached
