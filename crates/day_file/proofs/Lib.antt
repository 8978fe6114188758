-- Laws that the proofs of `day_file` cite: of what its readers read, and of parts of a file.
pub mod Taking
pub mod Window
