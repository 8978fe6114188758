-- What the contracts of `stream` cite: a part of a buffer.
pub mod Part
