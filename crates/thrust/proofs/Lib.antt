-- The laws that the proofs of `thrust` cite, and those that are promised of it.
pub mod Walking
pub mod Fit
pub mod Answering
pub mod Given
pub mod Numbers
pub mod Exact
pub mod Promised
pub mod Same
