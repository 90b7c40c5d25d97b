-- Monic polynomials
pub mod Monic
-- Weights that are prime to e
pub mod Coprime
-- Reduction in the ring of a table, and what it gives
pub mod LevelSteps
pub mod Annihilated
pub mod LastInSpan
-- Elements by their coordinates
pub mod SplitLemmas
pub mod BaseLemmas
pub mod RelationLemmas
-- Rests of multiples by powers of z
pub mod RestLemmas
