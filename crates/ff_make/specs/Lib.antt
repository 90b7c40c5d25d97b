-- The equations of a number
pub mod Curve
pub mod Generator
