-- Polynomials and planes modulo m
pub mod Congruences
pub mod Residues
pub mod Remainders
-- Residues of elements in code
pub mod ResidueLemmas
-- Columns and values
pub mod Columns
pub mod HornerLemmas
pub mod PairValues
pub mod PairLemmas
-- Polynomials at an element by blocks
pub mod BlockLemmas
pub mod ClearedLemmas
