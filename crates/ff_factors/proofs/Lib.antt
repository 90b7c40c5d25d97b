-- Common divisors of rows, and primitive polynomials
pub mod Divides
pub mod Gauss
pub mod Primitive
-- Primitive parts, and factors over k(x)
pub mod PrimitivePart
pub mod NormalForm
pub mod Factored
-- Divisors of zero, idempotents and factors
pub mod ZeroDivisors
pub mod Idempotents
pub mod EuclidFactors
