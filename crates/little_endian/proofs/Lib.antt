-- The laws of `little_endian`: runs of numbers.
pub mod Numbers
