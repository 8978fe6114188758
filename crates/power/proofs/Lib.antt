-- The laws of powers: the whole root, cuts, the rule of a table, and how near e and X come to a power of ten.
pub mod Arithmetic
pub mod Search
pub mod Cut
pub mod Table
pub mod ConstantTable
pub mod Scale
