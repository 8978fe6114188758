-- Laws that the proofs of `judging` cite.
pub mod Judging
