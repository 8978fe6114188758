-- The proof of demand 3, from laws on tests and lists to the whole claim; days in a row; the clock hours; the tolerances of the meters; the mixes; and what
-- stayed as it was.
pub mod Tests
pub mod Lists
pub mod Sums
pub mod Windows
pub mod Cells
pub mod Ranges
pub mod Agreement
pub mod Held
pub mod Highest
pub mod Offers
pub mod Closings
pub mod Claim
pub mod Means
pub mod Before
pub mod NextDay
pub mod Hours
pub mod Tolerance
pub mod Midnight
pub mod Unbroken
pub mod Raised
pub mod QuietFields
pub mod Recorded
pub mod Faintest
pub mod Mixes
