-- The laws of a chart that data name
pub mod ChartLaws
-- The rows of the two charts
pub mod FiniteRows
pub mod InfiniteRows
pub mod ChartLemmas
-- Residues of products
pub mod Products
pub mod Residues
pub mod Variables
-- The spaces of the descent
pub mod FirstSpace
pub mod NextSpace
pub mod LastSpace
pub mod PowerRows
pub mod Monomials
pub mod Combinations
pub mod ScaledRows
-- Lengths and rows
pub mod Lengths
-- Lattices that are closed under products
pub mod ClosedSpace
pub mod Closing
-- The linear test
pub mod TestPlanes
pub mod TestedRows
pub mod PassedSpace
pub mod ResidueVectors
pub mod Multiples
