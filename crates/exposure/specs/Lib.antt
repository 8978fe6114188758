-- What the contracts of `exposure` cite: energy and exposure level.
pub mod Exposure
-- the code's own machinery, which a reader of the papers can leave out
pub mod Exposing
