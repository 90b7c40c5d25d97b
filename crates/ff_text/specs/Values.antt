-- What a text stands for, and the faults of its values.
use Rattle.std.specs.Prelude.{◌≡◌, ℕ, ◌+◌, ◌-◌, ◌*◌, ◌<◌, ◌≤◌, ◌⊎◌, IsTrue, List, [], ◌∷◌, length}
use Rattle.std.specs.Prelude.{map, Option, Some, None, Result, Ok, Err}
use Rattle.std.specs.List.{AllZip, HoldsAt}
use Rattle.ff_theory.specs.PrimeTable.{primes, is_in, prime_elements}
use Rattle.ff_prime.specs.Number.{number_of}
use Rattle.ff_poly.specs.declared.limits.TheConstants.{MAX_X_DEGREE, MAX_Y_DEGREE, MAX_MONIC_DEGREE}
use Rattle.ff_poly.specs.Limits.{IsEquation}
use Rattle.ff_text.specs.declared.fault.TextFault.{TextFault}
use Rattle.ff_text.specs.declared.fault.TextFault.TheVariants as fault
use Rattle.ff_text.specs.declared.job.RawElem.{RawElem}
use Rattle.ff_text.specs.declared.job.Job.{Job}
use Rattle.ff_text.specs.declared.limits.TheConstants.{MAX_ELEM_X_DEGREE, MAX_ELEM_Y_DEGREE}
use Rattle.ff_text.specs.declared.reader.Monomial.{Monomial}
use Rattle.ff_text.specs.Grammar.{monomial, Term, Entry, Text}
use Rattle.ff_text.specs.Reading.{reduced_term}
use Rattle.ff_text.specs.Sums.{total, IsSum, IsSumInX}

-- ---- Terms modulo p

abbrev pub terms_of : ℕ → List Term → List Monomial
terms_of p ts = map (reduced_term p) ts

abbrev pub numerator_of : ℕ → Entry → List Monomial
numerator_of p e = terms_of p e.numerator

-- the denominator is 1 where there is none
abbrev pub terms_or_one : ℕ → Option (List Term) → List Monomial
terms_or_one p None = monomial 1 0 0 ∷ []
terms_or_one p (Some ts) = terms_of p ts

abbrev pub denominator_of : ℕ → Entry → List Monomial
denominator_of p e = terms_or_one p e.denominator

-- ---- Degrees. Like terms are added before any degree is taken.

-- x^i*y^j occurs in the sum of the terms
abbrev pub Occurs : ℕ → List Monomial → ℕ → ℕ → Type 0
Occurs p ms i j = 0 < total p ms i j

pub record HasY (p : ℕ) (ms : List Monomial) : Type 0 where
  pub i : ℕ
  pub j : ℕ
  pub occurs : Occurs p ms i j
  pub positive : 0 < j

abbrev pub IsZero : ℕ → List Monomial → Type 0
IsZero p ms = (i j : ℕ) → total p ms i j ≡ 0

-- the degree in x is above the first number, or that in y above the second
pub record IsAbove (x y p : ℕ) (ms : List Monomial) : Type 0 where
  pub i : ℕ
  pub j : ℕ
  pub occurs : Occurs p ms i j
  pub above : (x < i) ⊎ (y < j)

-- n is the degree in y, and d that of the coefficient of y^n
pub record IsLeading (p : ℕ) (ms : List Monomial) (d n : ℕ) : Type 0 where
  pub occurs : Occurs p ms d n
  pub greatest : (i j : ℕ) → Occurs p ms i j → (j < n) ⊎ ((j ≡ n) × (i ≤ d))

-- The degree in x of the monic form is above the limit: row j of it, for j below n, is row j times
-- the (n-1-j)-th power of row n.
pub record IsMonicAbove (limit p : ℕ) (ms : List Monomial) : Type 0 where
  pub d : ℕ
  pub n : ℕ
  pub leading : IsLeading p ms d n
  pub i : ℕ
  pub j : ℕ
  pub occurs : Occurs p ms i j
  pub below : j < n
  pub above : limit < i + (n - 1 - j) * d

-- ---- Faults

abbrev pub LacksY : ℕ → Entry → Type 0
LacksY p e = HasY p (numerator_of p e) → ⊥

abbrev pub IsOverZero : ℕ → Entry → Type 0
IsOverZero p e = IsZero p (denominator_of p e)

abbrev pub EquationExceeds : ℕ → Entry → Type 0
EquationExceeds p e =
    IsAbove MAX_X_DEGREE MAX_Y_DEGREE p (numerator_of p e)
    ⊎ IsMonicAbove MAX_MONIC_DEGREE p (numerator_of p e)

abbrev pub ElementExceeds : ℕ → Entry → Type 0
ElementExceeds p e =
    IsAbove MAX_ELEM_X_DEGREE MAX_ELEM_Y_DEGREE p (numerator_of p e)
    ⊎ IsAbove MAX_ELEM_X_DEGREE MAX_ELEM_Y_DEGREE p (denominator_of p e)

-- entry w, counted from 1
abbrev pub IsEntry : (Entry → Type 0) → List Entry → ℕ → Type 0
IsEntry P es w = (k : ℕ) × (w ≡ k + 1) × (k < length es) × HoldsAt P es k

-- what a fault says of a text: entries 1 and 2 are equations, and the others elements
abbrev pub Says : Text → TextFault → Type 0
Says v (fault.Syntax at) = ⊥
Says v fault.NotPrime = IsTrue (is_in v.number primes) → ⊥
Says v (fault.NoY w) = (w ≤ 2) × IsEntry (LacksY v.number) v.entries w
Says v (fault.ZeroDenominator w) = (3 ≤ w) × IsEntry (IsOverZero v.number) v.entries w
Says v (fault.Degree w) =
    ((w ≤ 2) × IsEntry (EquationExceeds v.number) v.entries w)
    ⊎ ((3 ≤ w) × IsEntry (ElementExceeds v.number) v.entries w)
Says v fault.NoMemory = ⊥

-- Faults come in the order of their causes, and faults of one cause in the order of the entries.
abbrev pub stage : TextFault → ℕ
stage (fault.Syntax at) = 0
stage fault.NotPrime = 1
stage (fault.NoY w) = 2
stage (fault.ZeroDenominator w) = 3
stage (fault.Degree w) = 4
stage fault.NoMemory = 5

abbrev pub which_of : TextFault → ℕ
which_of (fault.NoY w) = w
which_of (fault.ZeroDenominator w) = w
which_of (fault.Degree w) = w
which_of _ = 0

abbrev pub Precedes : TextFault → TextFault → Type 0
Precedes g f = (stage g < stage f) ⊎ ((stage g ≡ stage f) × (which_of g < which_of f))

pub record IsFirst (v : Text) (f : TextFault) : Type 0 where
  pub says : Says v f
  pub first : (g : TextFault) → Precedes g f → Says v g → ⊥

-- ---- Jobs

pub record IsElement (p : ℕ) (e : Entry) (r : RawElem) : Type 0 where
  pub numerator : IsSum p (numerator_of p e) r.num
  pub denominator : IsSumInX p (denominator_of p e) r.den

pub record IsEquations (p : ℕ) (e f : Entry) (job : Job) : Type 0 where
  pub first : IsSum p (numerator_of p e) job.first
  pub second : IsSum p (numerator_of p f) job.second

-- Where the text has one equation, it is the first and the second one.
abbrev pub HoldsEntries : ℕ → List Entry → Job → Type 0
HoldsEntries p [] job = ⊥
HoldsEntries p (e ∷ []) job = IsEquations p e e job × (job.elems.items ≡ [])
HoldsEntries p (e ∷ f ∷ es) job = IsEquations p e f job × AllZip (IsElement p) es job.elems.items

pub record IsJob (v : Text) (job : Job) : Type 0 where
  pub prime : number_of job.prime ≡ v.number
  pub entries : HoldsEntries v.number v.entries job

-- the equations of a job over its field
pub record HasEquations (job : Job) : Type 0 where
  pub first : IsEquation (prime_elements (number_of job.prime)) job.first
  pub second : IsEquation (prime_elements (number_of job.prime)) job.second

-- the job of a text, or its first fault, unless memory runs out
abbrev pub Answers : Text → Result Job TextFault → Type 0
Answers v (Ok job) = IsJob v job × ((f : TextFault) → Says v f → ⊥)
Answers v (Err fault.NoMemory) = Unit {0}
Answers v (Err f) = IsFirst v f

-- answers that come only where the bytes are a text
abbrev pub NeedsText : Result Job TextFault → Type 0
NeedsText (Ok job) = Unit {0}
NeedsText (Err (fault.Syntax at)) = ⊥
NeedsText (Err fault.NoMemory) = ⊥
NeedsText (Err f) = Unit {0}
