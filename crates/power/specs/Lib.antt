-- What the contracts of `power` cite: the whole root, and the powers of ten at levels.
pub mod Root
pub mod Power
