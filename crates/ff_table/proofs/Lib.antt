-- Polynomials in z
pub mod Sizes
-- The ring of coordinates
pub mod Coords
pub mod Laws
pub mod InCode
-- Weights, and those of products
pub mod Under
pub mod Weights
pub mod Domain
pub mod TableRing
pub mod One
pub mod Powers
pub mod PlainTable
-- Multiples by polynomials in z and by constants
pub mod Scalars
-- Reduction, division and relations
pub mod Levels
pub mod Monomials
pub mod Reduce
pub mod Division
pub mod LinearRelation
pub mod Multiples
-- Powers of an element, and relations
pub mod PrimeTo
pub mod Embedding
pub mod PowerSums
pub mod PowerValues
pub mod PseudoDivision
pub mod Relation
pub mod Back
pub mod ReduceSteps
-- Polynomials over it
pub mod Shift
pub mod ShiftCoeffs
pub mod RootOrders
pub mod Roots
pub mod LeadingDegrees
pub mod Tops
pub mod LevelProducts
-- The search for roots
pub mod Pairwise
pub mod Zeros
pub mod States
pub mod Search
pub mod RootsFound
pub mod Nodes
pub mod SearchSteps
pub mod LeadingTerms
-- Maps of the ring of a table into other rings
pub mod Transfer
pub mod BasisSums
pub mod WrittenBasis
pub mod Images
pub mod ImagesExist
pub mod KeepsWeights
pub mod Onto
pub mod Substitution
pub mod LeadingMultiples
pub mod Candidates
pub mod RootsOfMaps
-- Tables of elements of a ring
pub mod FreeBasis
pub mod PoleOrders
pub mod SpaceCoords
pub mod PlaceSpaces
