-- What the proofs of the calls stand on.

-- d and b
pub mod SepParts
-- The derivative as an element
pub mod Derivatives
