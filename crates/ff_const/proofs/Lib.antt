-- Finite fields: elements to the power of their number
pub mod FiniteRoots
pub mod FinitePowers
-- The order of keys
pub mod KeyOrder
pub mod KeyPlanes
-- Elements less constants, and factors
pub mod SplitLemmas
-- Combinations that are their own power
pub mod FixedLemmas
-- Common elements of two orders
pub mod CommonLemmas
pub mod ReducedOrders
