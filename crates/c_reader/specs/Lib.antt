-- What the contracts of `c_reader` cite: the words of a reader, what the calls leave, and what a run of calls over a whole file comes to.
pub mod Words
pub mod Calls
pub mod Run
