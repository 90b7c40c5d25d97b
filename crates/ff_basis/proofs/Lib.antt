pub mod Divisors
pub mod Fractions
pub mod Pieces
pub mod Numerators
pub mod OneList
pub mod ReadBack
pub mod Lengths
