-- Rows that grow, and entries of polynomials
pub mod RowLemmas
-- Answers that may be none
pub mod Options
-- Lists of elements that grow
pub mod ElemLemmas
-- Sums over blocks
pub mod LevelSums
-- Rows of a triangle
pub mod ReadingLemmas
-- Relations of elements, and what they write
pub mod WrittenLemmas
pub mod ExpressionLemmas
-- The table of the products
pub mod TableLemmas
-- Systems of given functions
pub mod SystemLemmas
-- Rows that begin as unit vectors do
pub mod UnitRows
pub mod ProductRows
pub mod ReadRows
pub mod ExactLemmas
