-- The rows of a chart, and the quotients at infinity that they are made of
pub mod Rows
pub mod Quotients
-- Residues of products, and the steps of the descent
pub mod Steps
-- Products in a space
pub mod Closing
-- The linear test
pub mod Level
