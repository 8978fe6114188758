-- What the contracts of `start_of_roll` cite: the correction at an angle, and its refusal.
pub mod Correction
