-- What the contracts of `c_planning` cite: what each exported function answers and leaves in what it was lent.
pub mod Calls
