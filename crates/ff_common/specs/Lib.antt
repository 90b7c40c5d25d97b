-- Numerators over one denominator
pub mod Common
