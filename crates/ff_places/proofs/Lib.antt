-- A field with the spaces of one of its points
pub mod FieldSpaces
pub mod Regular
pub mod Values
pub mod LinearValues
pub mod AlgebraicConstants
-- Elements bounded over one with a pole, and the rings that have them
pub mod Bounded
pub mod ChartRings
pub mod SpacesWithin
-- Charts of the field
pub mod ChartOrders
pub mod RegularCharts
-- E(f) with the spaces of one of its points
pub mod CurvePlaces
pub mod PlacePoints
pub mod SystemSpaces
pub mod SystemRings
pub mod TwoPoints
-- Isomorphisms of fields, and the points and systems that they carry
pub mod Isomorphisms
pub mod CarriedPlaces
pub mod MatchedSystems
pub mod CarriedRings
-- The isomorphism that a pair and its inverse pair give, and the choice that finds it
pub mod PairMaps
pub mod PairIsomorphisms
pub mod PairChoices
