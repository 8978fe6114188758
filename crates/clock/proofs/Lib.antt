-- The laws of the rates, of rule 2, and of the clock hours.
pub mod Rates
pub mod Inside
pub mod Hours
