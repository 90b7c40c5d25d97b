-- What was taken from a source, the job of a text, its faults, the answers to it, and the ends of a
-- run.
pub mod Taken
pub mod Jobs
pub mod Faults
pub mod Laws
pub mod Verdicts
pub mod Orders
pub mod Lists
pub mod Commands
pub mod Endings
