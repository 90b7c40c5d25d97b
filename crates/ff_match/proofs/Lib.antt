-- Weights, images and candidates
pub mod CandidateLemmas
