-- The laws of exposure: a stretch inside a window, samples at the ends of their ranges, and demand 3 for one event.
pub mod Stretches
pub mod Ranges
pub mod Accuracy
