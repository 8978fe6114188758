-- What the contracts of `day` cite: a turn of its loop.
pub mod Turn
