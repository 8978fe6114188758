-- Demand 3 as a reader finds it: the plain tally, the terminal over lists of calls, the laws beside the claims, and the claims; days in a row; the energies of
-- the clock hours; the lowest and the highest Ldn within the tolerances; the mixes that would pass; and what
-- stayed as it was.
pub mod Tally
pub mod Terminal
pub mod Laws
pub mod Demand
pub mod Means
pub mod Before
pub mod NextDay
pub mod Hours
pub mod Tolerance
pub mod Midnight
pub mod Unbroken
pub mod QuietFields
pub mod Recorded
pub mod Mixes
