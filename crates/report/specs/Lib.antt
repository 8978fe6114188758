-- What the contracts of `report` cite: the lines of the day program.
pub mod Text
