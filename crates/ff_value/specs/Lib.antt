-- The rows from which a value is read
pub mod Value
