-- Elements without poles
pub mod DependentPowers
pub mod Constants
-- The spaces of a point
pub mod Domains
pub mod Spaces
-- Pole systems
pub mod TableRule
pub mod Weights
pub mod Systems
pub mod Unique
