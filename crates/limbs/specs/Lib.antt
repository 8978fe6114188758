-- What the contracts of `limbs` cite: a run of limbs as a number.
-- the code's own machinery
pub mod Value
