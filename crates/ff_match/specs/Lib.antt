-- Images of the basis elements of a system, and candidates.
pub mod Candidates
