-- Combinations of vectors up to a vector of a space
pub mod Modulo
