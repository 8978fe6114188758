-- What the contracts of `level` cite: the level of a sum, and what demand 3 says of a level.
pub mod Level
pub mod Accuracy
-- the code's own machinery
pub mod Leading
