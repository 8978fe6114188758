-- What the contracts of `offering` cite: what comes of an offer.
pub mod Offer
-- the code's own machinery, which a reader of the papers can leave out
pub mod Entering
