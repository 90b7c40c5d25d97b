-- Reading a text symbol by symbol: the state of the reader, and what it has read.
use Rattle.std.specs.Prelude.{◌≡◌, ℕ, ◌+◌, ◌-◌, ◌*◌, ◌%◌, ◌^◌, ◌<◌, ◌≤◌, ◌==◌, ◌&&◌, nat_lt, max}
use Rattle.std.specs.Prelude.{Bool, true, false, List, [], ◌∷◌, ◌++◌, length, map, Option, Some}
use Rattle.std.specs.Prelude.{None, Result, Ok, Err, if◌then◌else◌}
use Rattle.std.specs.Global.{Vec}
use Rattle.std.specs.Option.{option_map}
use Rattle.ff_text.specs.declared.symbol.Sign.{Sign}
use Rattle.ff_text.specs.declared.symbol.Sign.TheVariants.{Plus, Minus}
use Rattle.ff_text.specs.declared.symbol.Variable.{Variable}
use Rattle.ff_text.specs.declared.symbol.Variable.TheVariants.{X, Y}
use Rattle.ff_text.specs.declared.symbol.Symbol.{Symbol}
use Rattle.ff_text.specs.declared.symbol.Symbol.TheVariants as symbol
use Rattle.ff_text.specs.declared.layout.Content.{Content}
use Rattle.ff_text.specs.declared.layout.Content.TheVariants as content
use Rattle.ff_text.specs.declared.layout.Line.{Line}
use Rattle.ff_text.specs.declared.layout.Mode.{Mode}
use Rattle.ff_text.specs.declared.reader.Monomial.{Monomial}
use Rattle.ff_text.specs.declared.reader.Fraction.{Fraction}
use Rattle.ff_text.specs.declared.reader.Part.{Part}
use Rattle.ff_text.specs.declared.reader.Part.TheVariants.{Whole, Numerator, Denominator}
use Rattle.ff_text.specs.declared.reader.Role.{Role}
use Rattle.ff_text.specs.declared.reader.Role.TheVariants.{Coefficient, Exponent}
use Rattle.ff_text.specs.declared.reader.Numeral.{Numeral}
use Rattle.ff_text.specs.declared.reader.State.{State}
use Rattle.ff_text.specs.declared.reader.State.TheVariants.{Start, Between, NumberStart, InNumber}
use Rattle.ff_text.specs.declared.reader.State.TheVariants.{LineEnd, ElementStart, PolynomialStart}
use Rattle.ff_text.specs.declared.reader.State.TheVariants.{FactorStart, InDigits, AfterVariable}
use Rattle.ff_text.specs.declared.reader.State.TheVariants.{ExponentStart, AfterFactor}
use Rattle.ff_text.specs.declared.reader.State.TheVariants.{AfterNumerator, AfterSlash}
use Rattle.ff_text.specs.declared.reader.TheConstants.{MAX_DIGITS}
use Rattle.ff_text.specs.declared.reader.Stop.{Stop}
use Rattle.ff_text.specs.declared.reader.Stop.TheVariants as stop
use Rattle.ff_text.specs.Symbols.{symbols}
use Rattle.ff_text.specs.Grammar.{monomial, times, lines_of, Term, Entry}

-- the polynomials of a line, with coefficients that are reduced
pub record Quotient : Type 0 where
  pub numerator : List Monomial
  pub denominator : Option (List Monomial)

-- how far a text is read
pub record Progress : Type 0 where
  -- the lines that have not begun
  pub lines : List Line
  pub state : State
  -- the number of the first line
  pub number : ℕ
  -- the term that is being read, reduced, and those before it in its polynomial
  pub sign : Sign
  pub product : Monomial
  pub terms : List Monomial
  -- the numerator that waits for its denominator
  pub numerator : List Monomial
  -- the lines that are done
  pub entries : List Quotient

-- ---- Coefficients are reduced modulo the number, or modulo 1 where that is 0

abbrev pub modulus : ℕ → ℕ
modulus n = max n 1

abbrev pub unit : ℕ → Monomial
unit m = monomial (1 % m) 0 0

-- the product of reduced monomials
abbrev pub reduced : ℕ → Monomial → Monomial
reduced m a = monomial (a.coefficient % m) a.x a.y

abbrev pub signed : ℕ → Sign → Monomial → Monomial
signed m Plus a = a
signed m Minus a = monomial ((m - a.coefficient % m) % m) a.x a.y

-- a term with its coefficient reduced, and its sign in it
abbrev pub reduced_term : ℕ → Term → Monomial
reduced_term m t = signed m t.sign (reduced m t.product)

abbrev pub reduced_entry : ℕ → Entry → Quotient
reduced_entry m e = record {
  numerator = map (reduced_term m) e.numerator;
  denominator = option_map (λ (ts : List Term). map (reduced_term m) ts) e.denominator;
}

-- ---- Numbers

abbrev pub first_digit : ℕ → Numeral
first_digit d = record { value = d; digits = 1 }

abbrev pub push_digit : Numeral → ℕ → Option Numeral
push_digit n d =
    if nat_lt n.digits MAX_DIGITS
    then Some (record { value = 10 * n.value + d; digits = n.digits + 1 })
    else None

-- ---- Parts of a step

abbrev pub factor_of : Role → ℕ → Monomial
factor_of Coefficient n = monomial n 0 0
factor_of (Exponent X) n = monomial 1 n 0
factor_of (Exponent Y) n = monomial 1 0 n

-- the term times a factor
abbrev pub apply : Role → ℕ → Progress → Progress
apply role n S = record S {
  product = reduced (modulus S.number) (times S.product (factor_of role n));
}

abbrev pub start : Content → State
start content.Equation = PolynomialStart Whole
start content.Element = ElementStart

abbrev pub open_line : List Line → ℕ → Progress → Option Progress
open_line [] l S = None
open_line (k ∷ ks) l S =
    if l == k.letter then Some (record S { lines = ks; state = start k.content }) else None

-- ---- The step at each state

abbrev pub go : State → Progress → Option Progress
go p S = Some (record S { state = p })

-- after the last token of a line
abbrev pub step_line_end : Progress → Symbol → Option Progress
step_line_end S symbol.Blank = go LineEnd S
step_line_end S symbol.LineFeed = go Between S
step_line_end S _ = None

abbrev pub step_between : Progress → Symbol → Option Progress
step_between S symbol.Blank = go Between S
step_between S symbol.LineFeed = go Between S
step_between S (symbol.Letter l) = open_line S.lines l S
step_between S _ = None

-- before the letter p
abbrev pub step_text_start : Progress → Symbol → Option Progress
step_text_start S symbol.Blank = go Start S
step_text_start S symbol.LineFeed = go Start S
step_text_start S (symbol.Letter l) = if l == 112 then go NumberStart S else None
step_text_start S _ = None

abbrev pub step_number_start : Progress → Symbol → Option Progress
step_number_start S symbol.Blank = go NumberStart S
step_number_start S (symbol.Digit d) = go (InNumber (first_digit d)) S
step_number_start S _ = None

abbrev pub end_number : ℕ → Progress → Progress
end_number n S = record S { number = n; product = unit (modulus n) }

abbrev pub step_in_number : Numeral → Progress → Symbol → Option Progress
step_in_number n S (symbol.Digit d) =
    option_map (λ m. record S { state = InNumber m }) (push_digit n d)
step_in_number n S σ = step_line_end (end_number n.value S) σ

-- whether the letter may stand in this part
abbrev pub allows : Part → Variable → Bool
allows Denominator Y = false
allows _ _ = true

abbrev pub step_factor_start : Part → Progress → Symbol → Option Progress
step_factor_start part S symbol.Blank = go (FactorStart part) S
step_factor_start part S (symbol.Digit d) = go (InDigits part Coefficient (first_digit d)) S
step_factor_start part S (symbol.Variable v) =
    if allows part v then go (AfterVariable part v) S else None
step_factor_start part S _ = None

abbrev pub step_polynomial_start : Part → Progress → Symbol → Option Progress
step_polynomial_start part S symbol.Blank = go (PolynomialStart part) S
step_polynomial_start part S (symbol.Sign g) =
    Some (record S { sign = g; state = FactorStart part })
step_polynomial_start part S σ = step_factor_start part S σ

abbrev pub step_element_start : Progress → Symbol → Option Progress
step_element_start S symbol.Blank = go ElementStart S
step_element_start S symbol.Open = go (PolynomialStart Numerator) S
step_element_start S σ = step_polynomial_start Whole S σ

-- the terms of the polynomial, with the one that was being read
abbrev pub all_terms : Progress → List Monomial
all_terms S = S.terms ++ signed (modulus S.number) S.sign S.product ∷ []

-- the next term of the polynomial
abbrev pub next_term : Progress → Progress
next_term S = record S { terms = all_terms S; sign = Plus; product = unit (modulus S.number) }

-- the polynomial is done
abbrev pub clear : Progress → Progress
clear S = record S { terms = []; sign = Plus; product = unit (modulus S.number) }

abbrev pub end_line : Progress → Option Progress
end_line S = Some (record (clear S) {
  entries = S.entries ++ record { numerator = all_terms S; denominator = None } ∷ [];
  state = Between;
})

abbrev pub close : Part → Progress → Option Progress
close Whole S = None
close Numerator S = Some (record (clear S) { numerator = all_terms S; state = AfterNumerator })
close Denominator S = Some (record (clear S) {
  entries = S.entries ++ record { numerator = S.numerator; denominator = Some (all_terms S) } ∷ [];
  numerator = [];
  state = LineEnd;
})

abbrev pub is_whole : Part → Bool
is_whole Whole = true
is_whole _ = false

abbrev pub step_after_factor : Part → Progress → Symbol → Option Progress
step_after_factor part S symbol.Blank = go (AfterFactor part) S
step_after_factor part S symbol.Times = go (FactorStart part) S
step_after_factor part S (symbol.Sign g) =
    Some (record (next_term S) { sign = g; state = FactorStart part })
step_after_factor part S symbol.LineFeed = if is_whole part then end_line S else None
step_after_factor part S symbol.Close = close part S
step_after_factor part S _ = None

abbrev pub step_in_digits : Part → Role → Numeral → Progress → Symbol → Option Progress
step_in_digits part role n S (symbol.Digit d) =
    option_map (λ m. record S { state = InDigits part role m }) (push_digit n d)
step_in_digits part role n S σ = step_after_factor part (apply role n.value S) σ

abbrev pub step_after_variable : Part → Variable → Progress → Symbol → Option Progress
step_after_variable part v S symbol.Blank = go (AfterVariable part v) S
step_after_variable part v S symbol.Power = go (ExponentStart part v) S
step_after_variable part v S σ = step_after_factor part (apply (Exponent v) 1 S) σ

abbrev pub step_exponent : Part → Variable → Progress → Symbol → Option Progress
step_exponent part v S symbol.Blank = go (ExponentStart part v) S
step_exponent part v S (symbol.Digit d) = go (InDigits part (Exponent v) (first_digit d)) S
step_exponent part v S _ = None

abbrev pub step_after_numerator : Progress → Symbol → Option Progress
step_after_numerator S symbol.Blank = go AfterNumerator S
step_after_numerator S symbol.Slash = go AfterSlash S
step_after_numerator S _ = None

abbrev pub step_after_slash : Progress → Symbol → Option Progress
step_after_slash S symbol.Blank = go AfterSlash S
step_after_slash S symbol.Open = go (PolynomialStart Denominator) S
step_after_slash S _ = None

abbrev pub step_at : State → Progress → Symbol → Option Progress
step_at Start S σ = step_text_start S σ
step_at Between S σ = step_between S σ
step_at NumberStart S σ = step_number_start S σ
step_at (InNumber n) S σ = step_in_number n S σ
step_at LineEnd S σ = step_line_end S σ
step_at ElementStart S σ = step_element_start S σ
step_at (PolynomialStart part) S σ = step_polynomial_start part S σ
step_at (FactorStart part) S σ = step_factor_start part S σ
step_at (InDigits part role n) S σ = step_in_digits part role n S σ
step_at (AfterVariable part v) S σ = step_after_variable part v S σ
step_at (ExponentStart part v) S σ = step_exponent part v S σ
step_at (AfterFactor part) S σ = step_after_factor part S σ
step_at AfterNumerator S σ = step_after_numerator S σ
step_at AfterSlash S σ = step_after_slash S σ

unfoldable pub step : Progress → Symbol → Option Progress
step S σ = step_at S.state S σ

-- ---- Whole texts

abbrev pub then_step : Option Progress → Symbol → Option Progress
then_step None σ = None
then_step (Some S) σ = step S σ

abbrev pub walk : Option Progress → List Symbol → Option Progress
walk o [] = o
walk o (σ ∷ s) = walk (then_step o σ) s

abbrev pub is_between : State → Bool
is_between Between = true
is_between _ = false

-- no line is left
abbrev pub is_done : Progress → Bool
is_done S = is_between S.state && (length S.lines == 0)

abbrev pub if_done : Option Progress → Option Progress
if_done None = None
if_done (Some S) = if is_done S then Some S else None

-- the text may end here, with or without a line feed
abbrev pub finish : Option Progress → Option Progress
finish o = if_done (then_step o symbol.LineFeed)

-- before a line, with these lines to come, the number and the lines that are done
abbrev pub before : List Line → ℕ → List Quotient → Progress
before ls n es = record {
  lines = ls;
  state = Between;
  number = n;
  sign = Plus;
  product = unit (modulus n);
  terms = [];
  numerator = [];
  entries = es;
}

abbrev pub initial : Mode → Progress
initial mode = record (before (lines_of mode) 0 []) { state = Start }

-- what a step gave, unless memory ran out
abbrev pub Follows : {A : Type 0} → Result A Stop → Option Progress → Progress → Type 0
Follows (Ok x) o S = o ≡ Some S
Follows (Err stop.Unexpected) o S = o ≡ None
Follows (Err stop.NoMemory) o S = Unit {0}

-- the end of a text, unless memory ran out
abbrev pub Ends : Result Progress Stop → Option Progress → Type 0
Ends (Ok S) o = o ≡ Some S
Ends (Err stop.Unexpected) o = o ≡ None
Ends (Err stop.NoMemory) o = Unit {0}

-- ---- How the code's values are seen

abbrev pub quotient : Fraction → Quotient
quotient f = record {
  numerator = f.numerator.items;
  denominator = option_map (λ (v : Vec Monomial). v.items) f.denominator;
}

-- the state after these bytes
abbrev pub reads : Mode → List ℕ → Option Progress
reads mode bytes = walk (Some (initial mode)) (symbols bytes)

-- ---- Sizes

-- at most MAX_DIGITS digits, and a value of so many
pub record IsShort (n : Numeral) : Type 0 where
  pub digits : n.digits ≤ MAX_DIGITS
  pub value : n.value < 10 ^ n.digits

abbrev pub IsShortAt : State → Type 0
IsShortAt (InNumber n) = IsShort n
IsShortAt (InDigits part role n) = IsShort n
IsShortAt _ = Unit {0}

-- the numbers of MAX_DIGITS digits are below it
abbrev pub number_bound : ℕ
number_bound = 1000000000

-- after k symbols no exponent is above k numbers of MAX_DIGITS digits
pub record HasExponents (k : ℕ) (S : Progress) : Type 0 where
  pub x : S.product.x ≤ number_bound * k
  pub y : S.product.y ≤ number_bound * k

pub record IsWithin (k : ℕ) (S : Progress) : Type 0 where
  pub state : IsShortAt S.state
  pub exponents : HasExponents k S

-- an exponent of MAX_DIGITS digits more has room
pub record HasRoom (S : Progress) : Type 0 where
  pub x : S.product.x + number_bound < 2 ^ 64
  pub y : S.product.y + number_bound < 2 ^ 64
