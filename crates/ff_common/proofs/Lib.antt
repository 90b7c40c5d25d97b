-- The images at infinity of numerators
pub mod BothCharts
-- Spaces of numerators, and the elements with them
pub mod CommonBasis
pub mod CommonSpace
pub mod ThetaRows
pub mod TimesSpaces
pub mod ReversedImages
pub mod HeldSpaces
