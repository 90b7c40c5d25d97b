-- Forms of points, functions, relations and candidates
pub mod Forms
