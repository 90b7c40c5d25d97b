-- Polynomials and elements modulo a polynomial m in x
pub mod Congruence
pub mod Residues
-- Pairs that are substituted
pub mod Columns
pub mod Powers
pub mod Cleared
pub mod Inverse
