-- What the contracts of `clock` cite: the clock's numbers, and what is tested against them.
pub mod Clock
