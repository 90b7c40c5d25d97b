-- The grammar of the input. `N s v r` says that the text s is an N of the value v, followed by r.
use Rattle.std.specs.Prelude.{ℕ, suc, ◌+◌, ◌*◌, ◌<◌, ◌≤◌, Bool, true, false, List, [], ◌∷◌, ◌++◌}
use Rattle.std.specs.Prelude.{length, take, Option, Some, None}
use Rattle.ff_text.specs.declared.symbol.Sign.{Sign}
use Rattle.ff_text.specs.declared.symbol.Sign.TheVariants.{Plus}
use Rattle.ff_text.specs.declared.symbol.Variable.TheVariants as variable
use Rattle.ff_text.specs.declared.symbol.Symbol.{Symbol}
use Rattle.ff_text.specs.declared.symbol.Symbol.TheVariants as symbol
use Rattle.ff_text.specs.declared.layout.Line.{Line}
use Rattle.ff_text.specs.declared.layout.Content.TheVariants as content
use Rattle.ff_text.specs.declared.layout.Mode.{Mode}
use Rattle.ff_text.specs.declared.layout.Mode.TheVariants as mode
use Rattle.ff_text.specs.declared.reader.TheConstants.{MAX_DIGITS}
use Rattle.ff_text.specs.declared.reader.Monomial.{Monomial}
use Rattle.ff_text.specs.Symbols.{symbols}

-- ---- Values

-- a product of factors: a number times powers of x and y
abbrev pub monomial : ℕ → ℕ → ℕ → Monomial
monomial c i j = record { coefficient = c; x = i; y = j }

-- coefficients multiply, and exponents of the same letter add
abbrev pub times : Monomial → Monomial → Monomial
times a b = monomial (a.coefficient * b.coefficient) (a.x + b.x) (a.y + b.y)

-- a product with its sign
pub record Term : Type 0 where
  pub sign : Sign
  pub product : Monomial

-- a polynomial, which is the sum of its terms, or a quotient of two
pub record Entry : Type 0 where
  pub numerator : List Term
  pub denominator : Option (List Term)

-- the number of the first line, and the values of the other lines
pub record Text : Type 0 where
  pub number : ℕ
  pub entries : List Entry

-- ---- The lines of a mode

abbrev pub equation_line : ℕ → Line
equation_line l = record { letter = l; content = content.Equation }

abbrev pub element_line : ℕ → Line
element_line l = record { letter = l; content = content.Element }

-- the lines after the line of p: f, g, X, Y, U and V
abbrev pub lines_of : Mode → List Line
lines_of mode.Iso = equation_line 102 ∷ equation_line 103 ∷ []
lines_of mode.Aut = equation_line 102 ∷ []
lines_of mode.Order = equation_line 102 ∷ []
lines_of mode.Check =
    equation_line 102 ∷ equation_line 103
    ∷ element_line 88 ∷ element_line 89 ∷ element_line 85 ∷ element_line 86 ∷ []

-- ---- Blanks and ends of lines

pub data Blanks : List Symbol → List Symbol → Type 0 where
  none : {s : List Symbol} → Blanks s s
  blank : {s r : List Symbol} → Blanks s r → Blanks (symbol.Blank ∷ s) r

-- blanks and line feeds
pub data Spaces : List Symbol → List Symbol → Type 0 where
  none : {s : List Symbol} → Spaces s s
  blank : {s r : List Symbol} → Spaces s r → Spaces (symbol.Blank ∷ s) r
  feed : {s r : List Symbol} → Spaces s r → Spaces (symbol.LineFeed ∷ s) r

-- a line feed, which may be missing at the end of the text
pub data LineEnd : List Symbol → List Symbol → Type 0 where
  feed : {r : List Symbol} → LineEnd (symbol.LineFeed ∷ r) r
  missing : LineEnd [] []

-- ---- Numbers

-- at least one more digit and at most k, after digits of the value m
pub data Digits : ℕ → ℕ → List Symbol → ℕ → List Symbol → Type 0 where
  last : {m k d : ℕ} {r : List Symbol} → Digits m (suc k) (symbol.Digit d ∷ r) (10 * m + d) r
  more : {m k d n : ℕ} {s r : List Symbol}
      → Digits (10 * m + d) k s n r → Digits m (suc k) (symbol.Digit d ∷ s) n r

-- one to MAX_DIGITS decimal digits
abbrev pub Number : List Symbol → ℕ → List Symbol → Type 0
Number s n r = Digits 0 MAX_DIGITS s n r

-- ---- Polynomials. The flag says whether the letter y may stand.

-- [ "^" number ], where nothing is written for the exponent 1
pub data Exponent : List Symbol → ℕ → List Symbol → Type 0 where
  none : {s : List Symbol} → Exponent s 1 s
  power : {s t u r : List Symbol} {n : ℕ}
      → Blanks s t → Number t n u → Blanks u r → Exponent (symbol.Power ∷ s) n r

-- number | "x" [ "^" number ] | "y" [ "^" number ]
pub data Factor : Bool → List Symbol → Monomial → List Symbol → Type 0 where
  number : {y : Bool} {s t r : List Symbol} {n : ℕ}
      → Number s n t → Blanks t r → Factor y s (monomial n 0 0) r
  x : {y : Bool} {s t r : List Symbol} {n : ℕ}
      → Blanks s t → Exponent t n r → Factor y (symbol.Variable variable.X ∷ s) (monomial 1 n 0) r
  y : {s t r : List Symbol} {n : ℕ}
      → Blanks s t → Exponent t n r
      → Factor true (symbol.Variable variable.Y ∷ s) (monomial 1 0 n) r

-- factor { "*" factor }
pub data Product : Bool → List Symbol → Monomial → List Symbol → Type 0 where
  one : {y : Bool} {s r : List Symbol} {a : Monomial} → Factor y s a r → Product y s a r
  more : {y : Bool} {s t u r : List Symbol} {a b : Monomial}
      → Factor y s a (symbol.Times ∷ t) → Blanks t u → Product y u b r → Product y s (times a b) r

-- { sign term }
pub data SignedTerms : Bool → List Symbol → List Term → List Symbol → Type 0 where
  none : {y : Bool} {s : List Symbol} → SignedTerms y s [] s
  more : {y : Bool} {s t u r : List Symbol} {g : Sign} {a : Monomial} {ts : List Term}
      → Blanks s t → Product y t a u → SignedTerms y u ts r
      → SignedTerms y (symbol.Sign g ∷ s) (record { sign = g; product = a } ∷ ts) r

-- [ sign ] term { sign term }
pub data Polynomial : Bool → List Symbol → List Term → List Symbol → Type 0 where
  plain : {y : Bool} {s t r : List Symbol} {a : Monomial} {ts : List Term}
      → Product y s a t → SignedTerms y t ts r
      → Polynomial y s (record { sign = Plus; product = a } ∷ ts) r
  signed : {y : Bool} {s t u r : List Symbol} {g : Sign} {a : Monomial} {ts : List Term}
      → Blanks s t → Product y t a u → SignedTerms y u ts r
      → Polynomial y (symbol.Sign g ∷ s) (record { sign = g; product = a } ∷ ts) r

-- ---- Lines

-- poly | "(" poly ")" "/" "(" xpoly ")"
pub data Element : List Symbol → Entry → List Symbol → Type 0 where
  whole : {s r : List Symbol} {ts : List Term}
      → Polynomial true s ts r → Element s (record { numerator = ts; denominator = None }) r
  quotient : {s t u v w x z r : List Symbol} {num den : List Term}
      → Blanks s t → Polynomial true t num (symbol.Close ∷ u) → Blanks u (symbol.Slash ∷ v)
      → Blanks v (symbol.Open ∷ w) → Blanks w x → Polynomial false x den (symbol.Close ∷ z)
      → Blanks z r
      → Element (symbol.Open ∷ s) (record { numerator = num; denominator = Some den }) r

-- lines of these kinds, each with its letter, in this order, and nothing after the last one
pub data Lines : List Line → List Symbol → List Entry → Type 0 where
  none : {s : List Symbol} → Spaces s [] → Lines [] s []
  equation : {l : ℕ} {ls : List Line} {s t u v r : List Symbol} {ts : List Term} {es : List Entry}
      → Spaces s (symbol.Letter l ∷ t) → Blanks t u → Polynomial true u ts v → LineEnd v r
      → Lines ls r es
      → Lines (record { letter = l; content = content.Equation } ∷ ls) s
      (record { numerator = ts; denominator = None } ∷ es)
  element : {l : ℕ} {ls : List Line} {s t u v r : List Symbol} {e : Entry} {es : List Entry}
      → Spaces s (symbol.Letter l ∷ t) → Blanks t u → Element u e v → LineEnd v r → Lines ls r es
      → Lines (record { letter = l; content = content.Element } ∷ ls) s (e ∷ es)

-- a line of p with a number, and then these lines
pub data IsText : List Line → List Symbol → Text → Type 0 where
  text : {ls : List Line} {s t u v w r : List Symbol} {n : ℕ} {es : List Entry}
      → Spaces s (symbol.Letter 112 ∷ t) → Blanks t u → Number u n v → Blanks v w → LineEnd w r
      → Lines ls r es
      → IsText ls s (record { number = n; entries = es })

-- the bytes are a text of this mode with these values
abbrev pub Derives : Mode → List ℕ → Text → Type 0
Derives mode bytes v = IsText (lines_of mode) (symbols bytes) v

-- ---- Faults

-- some text of this mode begins with these bytes
abbrev pub Begins : Mode → List ℕ → Type 0
Begins mode bytes = (more : List ℕ) × (v : Text) × Derives mode (bytes ++ more) v

-- The bytes are no text of this mode, and i is the length of their longest prefix with which some
-- text begins.
pub record IsFaultAt (mode : Mode) (bytes : List ℕ) (i : ℕ) : Type 0 where
  pub no_text : (v : Text) → Derives mode bytes v → ⊥
  pub within : i ≤ length bytes
  pub begins : Begins mode (take i bytes)
  pub longest : (n : ℕ) → i < n → n ≤ length bytes → Begins mode (take n bytes) → ⊥
