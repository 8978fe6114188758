-- What the contracts of `pairing` cite: the rule for pairings, and what a call answers; and what stayed as it was.
pub mod Pairing
pub mod Answers
pub mod Before
