-- Pole systems that were found
pub mod Found
-- Spaces of functions
pub mod Spaces
