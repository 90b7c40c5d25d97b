-- Division by a monic polynomial
pub mod Remainders
-- Rows modulo a polynomial in x
pub mod RowResidues
-- Planes and vectors
pub mod PlaneVectors
