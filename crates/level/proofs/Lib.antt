-- The laws of levels: the one answer, both accuracy bounds, the digits from which a level is read, and the search for it.
pub mod Answer
pub mod Bounds
pub mod Digits
pub mod Halving
pub mod Quotient
