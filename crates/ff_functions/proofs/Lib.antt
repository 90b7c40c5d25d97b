-- Rows and numbers under greater bounds
pub mod SearchLemmas
-- Planes of a shape, and polynomials that are not 0
pub mod PlaneLemmas
-- What a complete search says of its trail and of each number
pub mod FoundLemmas
-- Parts of a vector
pub mod VectorLemmas
-- Steps of an elimination
pub mod RowLemmas
-- Rows that hold images
pub mod HeldImages
-- Images that are whole
pub mod ShortImages
-- Images of elements
pub mod ElementImages
-- The next numerator
pub mod NumeratorImages
-- Pole numbers, with one order more
pub mod NumberLemmas
-- A search with one power more
pub mod SearchImages
-- Combinations of elements with poles of all orders
pub mod PoleChains
-- Pole numbers by such combinations
pub mod PoleNumbers
-- Dependent images
pub mod PoleImages
-- Proper fractions
pub mod ProperLemmas
-- How far elements reach at infinity
pub mod ReachLemmas
-- Images of powers
pub mod PowerImages
-- Pole numbers at a point of either chart
pub mod PlaceSearch
-- Combinations of given elements
pub mod ElementSpans
-- The numerators of multiples of a denominator
pub mod FrameLemmas
-- The elements with the numerators of a frame
pub mod FrameElements
-- Lists of numerators, with one more
pub mod FrameLists
-- The functions that a relation says
pub mod CombinedLemmas
-- Lists of functions and of weights, with one more
pub mod FunctionLists
-- The elements of the powers that a search has passed
pub mod PowerElements
-- The orders that a search finds dependent
pub mod SearchNumbers
-- What a search decides
pub mod ExactSearches
-- What the outcome of a search says
pub mod PlaceAnswers
-- The least numbers of their classes
pub mod LeastNumbers
