-- Forms of what reduction modulo multiples of powers needs and gives.
pub mod Reduction
-- What it does in the ring of the table.
pub mod Combination
pub mod InRing
