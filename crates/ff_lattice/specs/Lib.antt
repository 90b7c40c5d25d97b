-- Division by a monic polynomial
pub mod Remainder
-- Rows modulo a polynomial in x
pub mod Residues
-- Parts of vectors
pub mod Vectors
