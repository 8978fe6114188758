-- What the contracts of `runs` cite.
pub mod Put
