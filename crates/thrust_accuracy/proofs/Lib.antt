-- The proof that the level at a thrust is near the exact value of B.3, from plain numbers to the two laws.
pub mod Chain
pub mod Between
pub mod Near
