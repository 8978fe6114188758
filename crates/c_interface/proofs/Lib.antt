-- Laws that the proofs of `c_interface` share.
pub mod Records
pub mod Classes
pub mod Written
