-- Elements of E(f) in code, their keys, divisors of zero, the steps of Euclid's algorithm, and
-- factors of f.
pub mod Elem
pub mod Key
pub mod Inverse
pub mod Euclid
pub mod Factors
pub mod Zeros
