-- What the contracts of `mixes` cite: the mixes that would pass, what a call answers, and the law that each mix is counted once.
pub mod Mix
pub mod Answers
pub mod Laws
-- the code's own machinery, which a reader of the papers can leave out
pub mod Ways
