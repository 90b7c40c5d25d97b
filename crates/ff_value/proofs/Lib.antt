-- Answers that may be None
pub mod OptionLemmas
-- Rows in powers of y', and elements of the finite power order
pub mod MonicRows
pub mod ExactQuotients
-- Quotients at infinity
pub mod InfiniteRows
-- The value by the rows
pub mod RowValues
