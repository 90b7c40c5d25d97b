-- Keys of polynomials in x and y
pub mod Keys
-- Elements that are their own power by the number of elements of the field, and factors
pub mod Fixed
-- Irreducible equations
pub mod Irreducible
