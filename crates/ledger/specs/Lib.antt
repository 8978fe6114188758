-- What the contracts of `ledger` cite: the book, and the day and its opening; and the settings of document 01.
pub mod Book
pub mod Day
pub mod Before
