-- The ring of a table
pub mod Coords
pub mod Weight
pub mod Table
pub mod Leading
pub mod Level
pub mod Reduce
pub mod Powers
-- Polynomials over it
pub mod Shift
pub mod Order
pub mod Roots
-- Fractions and orders of poles
pub mod Closed
pub mod PoleOrders
-- Lists of values that stand for coordinates and tables
pub mod InCode
