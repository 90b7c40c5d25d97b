-- Values of lists of coefficients
pub mod ValueLemmas
-- Leading terms and leading polynomials
pub mod LeadLemmas
-- Loops over states
pub mod SearchLemmas
-- The steps on one state
pub mod StateLemmas
