-- The words of the contracts of sources and sinks.
-- Chapters: counts of faults and their causes; bytes of several calls; sources and sinks in memory;
-- readers and writers with a count.
pub mod Causes
pub mod Bytes
pub mod Memory
pub mod Counted
