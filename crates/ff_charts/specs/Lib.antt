-- Charts of a ring, their power orders and residue lattices
pub mod Chart
pub mod Lattice
-- The charts of E(f), and its integral elements
pub mod FieldCharts
pub mod Integral
