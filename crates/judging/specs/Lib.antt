-- What the contracts of `judging` cite: which answers are right, and how calls and differences are counted.
pub mod Judging
