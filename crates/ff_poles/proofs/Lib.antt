-- Tables of described systems
pub mod DescribedLemmas
-- Elements written over other functions
pub mod WrittenSame
-- Pole systems of least functions
pub mod SystemAnswers
-- Dimensions of the spaces of a point
pub mod ElementCounts
-- Least indices of classes
pub mod IndexLemmas
-- Elements that are no combination of others
pub mod PickLemmas
-- The systems of the spaces of a point
pub mod SpaceSystems
