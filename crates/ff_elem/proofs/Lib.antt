-- What the proofs of the calls stand on.

-- Lists of rows, polynomials that are not 0, and zeros that are added
pub mod RowLemmas
pub mod PolyLemmas
pub mod ZeroLemmas
-- Reduction by the equation, and elements in lowest terms
pub mod Reduction
pub mod Quotients
-- Euclid's algorithm, and inverses
pub mod EuclidSteps
pub mod CommonRows
pub mod EuclidLoop
pub mod Inverses
-- Factors of the equation
pub mod Cofactors
-- Keys and their order
pub mod KeyLemmas
