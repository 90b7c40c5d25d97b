-- Lemmas of this crate. Chapters: counts of faults; bytes of several calls.
pub mod Causes
pub mod Bytes
