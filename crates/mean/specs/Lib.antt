-- What the contracts of `mean` cite: the mean of days, and the year's records.
pub mod Mean
pub mod Records
-- the code's own machinery
pub mod Total
