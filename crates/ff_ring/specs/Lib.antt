-- Lists of polynomials by their entries.
pub mod Entries
-- The ring of the table of a system.
pub mod Ring
-- Leading terms.
pub mod Weight
-- Polynomials at alpha * z + beta.
pub mod Affine
-- Forms of relations.
pub mod Relations
