-- Lists that grow
pub mod ListLemmas
-- Polynomials at elements, by Horner's rule
pub mod HornerLemmas
-- Elements over a common denominator
pub mod Denominators
pub mod VectorLemmas
-- Sums of elements of an order
pub mod OrderLaws
-- The laws of a chart that data name, the monic form and the equation at infinity
pub mod ChartLaws
pub mod MonicLemmas
-- Combinations of planes
pub mod PlaneCombinations
-- Orders and points by their data as those of a chart
pub mod LocalOrder
pub mod LocalMaximal
-- Quotients of the rows of a plane, and values by numerators
pub mod PlaneQuotients
pub mod EvaluationLemmas
pub mod NumeratorLemmas
