-- The map of a candidate on coordinates.
pub mod Maps
