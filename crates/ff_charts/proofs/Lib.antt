-- Polynomials by their coefficients, and division by a monic one
pub mod Rows
pub mod MonicDivision
pub mod MonicForm
-- Polynomials in 1/t
pub mod Reversal
pub mod VariablePowers
-- The power order of a chart is a ring
pub mod Chart
-- The charts of E(f) are charts
pub mod FiniteChart
pub mod InvertedChart
pub mod InfiniteChart
pub mod Slope
-- Residue lattices
pub mod Flat
pub mod Lattice
pub mod Closure
pub mod Units
