-- What the contracts of `steps` cite: what is printed for a whole file, a reader and its steps, and what a run of steps over a whole file comes to.
pub mod Report
pub mod Machine
pub mod Run
