-- The trace identity
pub mod Trace
-- p-th roots, and polynomials as sums of p-th powers
pub mod Pigeonhole
pub mod PowerParts
pub mod Roots
pub mod SplitZero
-- The different carries integral elements into the power order
pub mod Conductor
pub mod Free
pub mod Integral
-- Integral in a chart of E(f) is finite-integral, or infinity-integral
pub mod FiniteIntegral
pub mod Degrees
pub mod InfiniteIntegral
-- The different of the two charts, and when it has an inverse
pub mod Separable
pub mod SepForm
pub mod InvertedDifferent
pub mod InvertedSep
