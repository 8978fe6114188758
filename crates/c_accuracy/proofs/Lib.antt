-- The proof of demand 3 through C: levels that are told by their numbers, the day that the words hold, and the claims.
pub mod Told
pub mod Held
pub mod Claim
