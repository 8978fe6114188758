-- What the contracts of `little_endian` cite: numbers in a list of bytes.
pub mod Bytes
