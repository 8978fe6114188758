-- The starred cases: levels that are read off by computed tests, and the one proof of the table.
pub mod Levels
pub mod Starred
