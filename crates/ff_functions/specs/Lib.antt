-- The meaning of rows
pub mod Rows
-- Residues at infinity as vectors
pub mod Images
-- The elements that a search combines
pub mod Elements
-- The forms of what a search for functions holds
pub mod Searches
-- The functions that a relation says
pub mod Combined
-- The functions that a search found
pub mod Answers
