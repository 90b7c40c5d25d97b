-- Why an equation is not separable.
pub mod Faults
-- The parts that the inverse of the derivative gives.
pub mod Parts
