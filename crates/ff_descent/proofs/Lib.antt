-- The levels are lattices that hold the integral elements
pub mod Descent
pub mod Start
pub mod Levels
-- Level 1 by a linear test
pub mod RowProducts
pub mod LinearTest
pub mod FirstLattice
-- A turn of the descent, and where it ends
pub mod Turn
pub mod Closed
pub mod Maximal
pub mod Exact
-- The two maximal orders of E(f)
pub mod MaximalOrders
