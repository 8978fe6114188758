-- What the contracts of land cite.
pub mod Classes
pub mod Answers
pub mod Verdict
