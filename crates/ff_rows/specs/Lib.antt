-- What a table of rows counts.
pub mod Rows
