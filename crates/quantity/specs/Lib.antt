-- What every crate cites: tables of refusals and outcomes, the numbers and values of the answers, the limits and the scale of levels, the range of a sample, instants, numbers,
-- lists, and what a call leaves in what it was lent.
pub mod Rules
pub mod Answers
pub mod Limits
pub mod Scale
pub mod Tolerance
pub mod Instants
pub mod Numbers
pub mod Lists
pub mod Lent
