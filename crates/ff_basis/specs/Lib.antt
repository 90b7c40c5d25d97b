-- The canonical list of an order
pub mod OrderList
-- How it is computed: blocks of vectors, and rows of fractions
pub mod Blocks
