-- The laws that the proofs of `limbs` share. Callers of the crate cite `Value` and `Digits`.
pub mod Value
pub mod Digits
pub mod Carry
pub mod Remainder
