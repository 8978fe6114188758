-- What the contracts of `method` cite: the numbers of a day, and the method that they choose.
pub mod Method
-- the code's own machinery, which a reader of the papers can leave out
pub mod Sizes
