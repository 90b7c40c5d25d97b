-- Divisors of rows, and planes divided by them
pub mod Shrinking
-- Poles at a point of a maximal order
pub mod Places
-- The equations of an element with a pole of order one
pub mod Socle
-- The forms of powers of an element with a pole at a point
pub mod Powers
-- The forms of numerators of pole modules
pub mod Numerators
