-- Roots of an equation over an element
mod RootLemmas
-- Values of the basis by the data of a point
mod BasisValues
-- Characters of a fibre are points, and points come from characters
mod CharacterPoints
mod PointCharacters
mod PointsOver
-- Lists of points, and their order
mod PointListLemmas
mod PointKeys
