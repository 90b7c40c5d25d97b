-- The elements z^a * b_l within a weight.
pub mod Levels
-- What rows of relations write.
pub mod Readings
-- Systems of given functions.
pub mod Described
