-- Values at a point
pub mod PointValues
-- Values by data, and those at a point
pub mod DataValues
-- Functionals on a fibre, and points by data
pub mod FunctionalPoints
-- A fibre from numerators that span
pub mod SpannedNumerators
pub mod ProductNumerators
-- Planes modulo multiples, by their vectors
pub mod MultipleVectors
