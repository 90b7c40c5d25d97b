-- The form of a point
pub mod PointForms
