-- The laws of the reader: what its steps over a whole file come to, and that they come to an end.
pub mod Running
pub mod Ending
