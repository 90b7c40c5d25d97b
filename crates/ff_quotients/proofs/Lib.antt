-- Residues at infinity of quotients
pub mod QuotientResidues
-- Combinations of a basis that have a property
pub mod KeptVectors
