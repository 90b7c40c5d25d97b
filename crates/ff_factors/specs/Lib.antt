-- Primitive and normalised polynomials in x and y, and factors over k(x)
pub mod Factors
