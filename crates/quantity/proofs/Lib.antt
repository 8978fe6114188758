-- The laws that every crate cites: tables of refusals, tests, numbers with a sign, instants, the scale of levels, the range of a sample, and lists.
pub mod Refusing
pub mod Outcomes
pub mod Tests
pub mod Numbers
pub mod Instants
pub mod Scale
pub mod Ranges
pub mod Lists
