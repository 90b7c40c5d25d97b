-- The order and combinations of its elements
pub mod Orders
pub mod Joined
pub mod Combined
pub mod Spanned
-- The kernel of a point
pub mod Basics
pub mod Kernel
pub mod Functional
-- Pole modules and leading values
pub mod Modules
pub mod ByLists
pub mod Leading
pub mod Weight
-- The element whose powers give them
pub mod Annihilator
pub mod Socle
pub mod SocleVector
pub mod Maximal
pub mod LocalPair
pub mod Powers
-- Orders of a chart, and spaces of planes
pub mod Decide
pub mod PlaneSums
pub mod EchelonSpace
-- An order of a chart at one of its points
pub mod Roots
pub mod ChartOrder
pub mod ChartSpanning
pub mod Quotients
pub mod ChartPoint
pub mod ChartValue
pub mod ChartData
pub mod ChartMaximal
-- Its pole modules as residue lattices
pub mod ChartPole
pub mod ChartQuotient
pub mod ChartPowers
pub mod PoleVectors
-- Its fibre by numerators
pub mod ChartFibre
pub mod ChartFunctional
