-- Lemmas on texts.

-- The grammar and the reader: what is derived is read, what is read is derived, where reading
-- stops,
-- and that no number passes its size.
pub mod Accepts
pub mod Derived
pub mod Completed
pub mod Faults
pub mod Sizes
-- Sums of like terms, and the polynomials that they become.
pub mod Totals
pub mod Ratios
pub mod Rows
-- Tests on sums, the first fault, and the job.
pub mod Leading
pub mod Tests
pub mod First
pub mod Parts
pub mod Answered
pub mod Within
-- Numbers that stand alone.
pub mod Numbers
