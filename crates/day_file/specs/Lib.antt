-- What the contracts of `day_file` cite: the sections of a day file, the day of a whole file, and how much of a file a reader must hold.
pub mod Records
pub mod File
pub mod Window
