-- Odd primes and exponents
pub mod OddPrimes
pub mod Sizes
