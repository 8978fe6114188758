-- What the contracts of `c_interface` cite: answers as numbers, and what each exported function answers and leaves in what it was lent.
pub mod Numbers
pub mod Calls
