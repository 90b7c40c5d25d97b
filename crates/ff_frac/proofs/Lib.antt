-- Shapes of residues, lengths of products and the equation of a chart
pub mod FractionLemmas
-- Elements with a pole of a given order at a point
pub mod PoleOrders
-- A point of a maximal order
pub mod PlaceLemmas
-- Values of elements by numerators
pub mod ValueLemmas
-- The rows of the equations of an element with a pole of order one
pub mod SocleRows
-- A solution of them is such an element
pub mod SoclePlace
-- The powers of such an element, as data
pub mod PowerLemmas
-- Vectors of the numerators of pole modules
pub mod NumeratorLattice
-- The numerators of pole modules, as data
pub mod NumeratorLemmas
-- Orders over smaller denominators
pub mod ShrinkLattice
-- Quotients of rows by a divisor
pub mod ShrinkLemmas
-- Divisors of lists of rows
pub mod ShrinkLists
