-- The words of the contracts of texts.

-- The grammar: what a byte means, the texts and their values, and the reader.
pub mod Symbols
pub mod Grammar
pub mod Reading
pub mod Reads
-- What a text stands for: sums of like terms, their limits, the job and the faults.
pub mod Sums
pub mod Ratios
pub mod Limits
pub mod Parts
pub mod Values
-- Printed texts: faults and polynomials, elements and lists, refusals.
pub mod Printed
pub mod Lists
pub mod Refusals
