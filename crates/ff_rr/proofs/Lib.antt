-- The functions of a pole module and an order as the common elements of two lattices
pub mod FunctionLemmas
