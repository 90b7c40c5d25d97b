-- Rings: equations by a solver and by rewriting, laws carried along maps
pub mod Solver
pub mod RingRules
pub mod Transfer
pub mod Powers
pub mod Frobenius
pub mod Divides
-- Lists, truth values and results
pub mod Booleans
pub mod Results
pub mod Lists
-- Sums and power series
pub mod Series
pub mod Sums
pub mod Linear
-- Spans of vectors
pub mod Insert
pub mod Span
pub mod Dependence
-- Polynomials over a commutative ring
pub mod Poly
pub mod Coeffs
pub mod InPlace
pub mod Combination
pub mod Monomial
pub mod Product
pub mod Values
pub mod Listed
pub mod Division
pub mod Evaluate
pub mod Horner
pub mod FrobeniusPoly
pub mod Parts
-- Polynomials over a field
pub mod PolyMap
pub mod Domains
pub mod Gcd
pub mod Euclid
pub mod LowestTerms
-- Fractions, and classes of polynomials modulo one of them
pub mod Fractions
pub mod FractionField
pub mod Quotient
pub mod QuotientUnits
-- Classes of polynomials over k(x) modulo f, and their forms in lowest terms
pub mod Algebra
pub mod ReducedForms
pub mod FractionForm
pub mod AlgebraParts
pub mod Proper
pub mod Irreducible
pub mod Model
-- E(f) is the ring of these classes; its elements
pub mod NormalForms
pub mod Element
pub mod Constants
pub mod ElementPower
pub mod ElementEuclid
pub mod ElementField
-- The prime fields
pub mod Residue
pub mod PrimeField
pub mod Prime
