-- Pairs of elements substituted for x and y, and lists of pairs with their inverses.
pub mod Substitution
pub mod Pairs
pub mod Lists
-- Separability, charts and orders.
pub mod Orders
-- Combinations of elements over the field.
pub mod Combinations
-- Lattices of the two charts.
pub mod Lattices
-- Points, pole modules, the spaces L_j and pole systems.
pub mod Points
pub mod Poles
pub mod Systems
-- Elements over one common denominator.
pub mod Vectors
-- Quotients at infinity.
pub mod Quotients
-- Numerators over a modulus, and their values
pub mod Numerators
