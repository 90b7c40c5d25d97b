-- The levels of the descent, and their residues
pub mod Descent
