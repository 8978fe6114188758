-- What the contracts of `thrust` cite: the level at a thrust, its refusals, and what is promised at each row.
pub mod Rows
pub mod Laws
