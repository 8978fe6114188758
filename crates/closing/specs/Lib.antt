-- What the contracts of `closing` cite: the two formulas, and closing a day.
pub mod Formula
pub mod Close
