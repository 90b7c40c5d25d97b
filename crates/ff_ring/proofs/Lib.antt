-- Lists of polynomials that grow
pub mod EntryLemmas
-- Products by the table
pub mod ProductLemmas
-- Polynomials at alpha * z + beta, and quotients
pub mod LineLemmas
pub mod QuotientLemmas
-- Coordinates as elements of the ring
pub mod RingElements
