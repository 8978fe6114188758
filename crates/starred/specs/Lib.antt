-- The starred cases as a reader finds them: questions, the answers that the contracts' definitions give, and the table.
pub mod Starred
