-- Numbers and exponents stay within what was read.
use Rattle.std.proofs.Common.{◌≡◌, ℕ, ◌+◌, ◌*◌, ◌^◌, ◌<◌, ◌≤◌, Bool, true, false, cond, eqb, ltb}
use Rattle.std.proofs.Common.{List, [], ◌∷◌, Option, Some, None, refl, subst, arith, lit≤}
use Rattle.std.proofs.Common.{add-one}
use Rattle.std.proofs.Math.Nat.{pow-succ', pow-le-pow_right}
use Rattle.std.specs.Option.{option_map}
use Rattle.std.proofs.lemmas.Bool.{ltb-true}
use Rattle.ff_text.specs.declared.symbol.Variable.{Variable}
use Rattle.ff_text.specs.declared.symbol.Variable.TheVariants.{X, Y}
use Rattle.ff_text.specs.declared.symbol.Symbol.{Symbol}
use Rattle.ff_text.specs.declared.symbol.Symbol.TheVariants as symbol
use Rattle.ff_text.specs.declared.layout.Line.{Line}
use Rattle.ff_text.specs.declared.layout.Content.{Content}
use Rattle.ff_text.specs.declared.layout.Content.TheVariants as content
use Rattle.ff_text.specs.declared.reader.Part.{Part}
use Rattle.ff_text.specs.declared.reader.Part.TheVariants.{Whole, Numerator, Denominator}
use Rattle.ff_text.specs.declared.reader.Role.{Role}
use Rattle.ff_text.specs.declared.reader.Role.TheVariants.{Coefficient, Exponent}
use Rattle.ff_text.specs.declared.reader.Numeral.{Numeral}
use Rattle.ff_text.specs.declared.reader.State.{State}
use Rattle.ff_text.specs.declared.reader.State.TheVariants.{Start, Between, NumberStart, InNumber}
use Rattle.ff_text.specs.declared.reader.State.TheVariants.{LineEnd, ElementStart, PolynomialStart}
use Rattle.ff_text.specs.declared.reader.State.TheVariants.{FactorStart}
use Rattle.ff_text.specs.declared.reader.State.TheVariants.{InDigits, AfterVariable, ExponentStart}
use Rattle.ff_text.specs.declared.reader.State.TheVariants.{AfterFactor, AfterNumerator, AfterSlash}
use Rattle.ff_text.specs.Symbols.{IsDigitShort}
use Rattle.ff_text.specs.Reading.{Progress, number_bound, IsShort, IsShortAt, HasExponents}
use Rattle.ff_text.specs.Reading.{IsWithin, start, step}
use Rattle.ff_text.specs.Reading.{step_at, first_digit, push_digit, allows, apply}
use Rattle.ff_text.specs.Reading.{step_line_end, step_text_start, step_between, open_line}
use Rattle.ff_text.specs.Reading.{step_number_start, step_in_number, step_element_start}
use Rattle.ff_text.specs.Reading.{step_polynomial_start, step_factor_start, step_in_digits}
use Rattle.ff_text.specs.Reading.{step_after_variable, step_exponent, step_after_factor}
use Rattle.ff_text.specs.Reading.{step_after_numerator, step_after_slash}

abbrev Stays : ℕ → Option Progress → Type 0
Stays k None = Unit {0}
Stays k (Some S) = IsWithin (k + 1) S

pub short_first : (d : ℕ) → d < 10 → IsShort (first_digit d)
short_first d h = record { digits = lit≤ tt; value = h }

pub short_more : (n : Numeral) (d : ℕ) → d < 10 → n.digits < 9 → IsShort n
    → IsShort (record { value = 10 * n.value + d; digits = n.digits + 1 })
short_more n d h lt s =
    let e : 10 ^ (n.digits + 1) ≡ 10 * 10 ^ n.digits = rw add-one (pow-succ' 10 n.digits) in
    record { digits = omega arith; value = omega (arith, e, s.value) }

-- with a digit more it has at most nine
pub short_below : (n : Numeral) → n.digits < 9 → IsShort n → n.value < 100000000
short_below n lt s =
    let e : 10 ^ n.digits ≤ 100000000 = pow-le-pow_right {n = 10} (lit≤ tt)
    (let k : n.digits ≤ 8 = omega arith in k) in
    omega (arith, e, s.value)

pub short_value : (n : Numeral) → IsShort n → n.value < number_bound
short_value n s =
    let e : 10 ^ n.digits ≤ number_bound = pow-le-pow_right {n = 10} (lit≤ tt) s.digits in
    omega (arith, e, s.value)

module _ (k : ℕ) (S : Progress) (w : HasExponents k S) where
  -- another state of the reader
  moved : (p : State) → IsShortAt p → IsWithin (k + 1) (record S { state = p })
  moved p h = record {
    state = h;
    exponents = record
        { x = omega (arith, w.x); y = omega (arith, w.y) };
  }

  chosen_within : (b : Bool) (p : State) → IsShortAt p
      → Stays k (cond b (Some (record S { state = p })) None)
  chosen_within true p h = moved p h
  chosen_within false p h = tt

  pushed_within : (n : Numeral) (d : ℕ) → d < 10 → IsShort n → (f : Numeral → State)
      → ((m : Numeral) → IsShort m → IsShortAt (f m))
      → Stays k (option_map (λ m. record S { state = f m }) (push_digit n d))
  pushed_within n d h s f g = go (ltb n.digits 9) refl
    where
      go : (b : Bool) → ltb n.digits 9 ≡ b
          → Stays k (option_map (λ m. record S { state = f m })
          (cond b (Some (record { value = 10 * n.value + d; digits = n.digits + 1 })) None))
      go true e = moved (f (record { value = 10 * n.value + d; digits = n.digits + 1 }))
          (g (record { value = 10 * n.value + d; digits = n.digits + 1 })
          (short_more n d h (ltb-true _ _ e) s))
      go false e = tt

  line_end_within : (σ : Symbol) → Stays k (step_line_end S σ)
  line_end_within symbol.Blank = moved LineEnd tt
  line_end_within symbol.LineFeed = moved Between tt
  line_end_within _ = tt

  start_within : (σ : Symbol) → Stays k (step_text_start S σ)
  start_within symbol.Blank = moved Start tt
  start_within symbol.LineFeed = moved Start tt
  start_within (symbol.Letter l) = chosen_within (eqb l 112) NumberStart tt
  start_within _ = tt

  number_start_within : (σ : Symbol) → IsDigitShort σ → Stays k (step_number_start S σ)
  number_start_within symbol.Blank h = moved NumberStart tt
  number_start_within (symbol.Digit d) h = moved (InNumber (first_digit d)) (short_first d h)
  number_start_within _ h = tt

  factor_start_within : (part : Part) (σ : Symbol) → IsDigitShort σ
      → Stays k (step_factor_start part S σ)
  factor_start_within part symbol.Blank h = moved (FactorStart part) tt
  factor_start_within part (symbol.Digit d) h = moved (InDigits part Coefficient (first_digit d))
      (short_first d h)
  factor_start_within part (symbol.Variable v) h = chosen_within (allows part v)
      (AfterVariable part v) tt
  factor_start_within part _ h = tt

  polynomial_start_within : (part : Part) (σ : Symbol) → IsDigitShort σ
      → Stays k (step_polynomial_start part S σ)
  polynomial_start_within part symbol.Blank h = moved (PolynomialStart part) tt
  polynomial_start_within part (symbol.Sign g)
      h = (let m = moved Start tt in record
      { state = tt; exponents = record { x = m.exponents.x; y = m.exponents.y } })
  polynomial_start_within part σ h = factor_start_within part σ h

  element_start_within : (σ : Symbol) → IsDigitShort σ → Stays k (step_element_start S σ)
  element_start_within symbol.Blank h = moved ElementStart tt
  element_start_within symbol.Open h = moved (PolynomialStart Numerator) tt
  element_start_within σ h = polynomial_start_within Whole σ h

  exponent_start_within : (part : Part) (v : Variable) (σ : Symbol) → IsDigitShort σ
      → Stays k (step_exponent part v S σ)
  exponent_start_within part v symbol.Blank h = moved (ExponentStart part v) tt
  exponent_start_within part v (symbol.Digit d) h = moved
      (InDigits part (Exponent v) (first_digit d)) (short_first d h)
  exponent_start_within part v _ h = tt

  after_numerator_within : (σ : Symbol) → Stays k (step_after_numerator S σ)
  after_numerator_within symbol.Blank = moved AfterNumerator tt
  after_numerator_within symbol.Slash = moved AfterSlash tt
  after_numerator_within _ = tt

  after_slash_within : (σ : Symbol) → Stays k (step_after_slash S σ)
  after_slash_within symbol.Blank = moved AfterSlash tt
  after_slash_within symbol.Open = moved (PolynomialStart Denominator) tt
  after_slash_within _ = tt

  applied_within : (role : Role) (n : ℕ) → n ≤ number_bound
      → ((apply role n S).product.x ≤ number_bound * (k + 1))
      × ((apply role n S).product.y ≤ number_bound * (k + 1))
  applied_within Coefficient n h = (omega (arith, w.x), omega (arith, w.y))
  applied_within (Exponent X) n h = (omega (arith, w.x), omega (arith, w.y))
  applied_within (Exponent Y) n h = (omega (arith, w.x), omega (arith, w.y))

-- a state whose exponents are within
after_factor_within : (k : ℕ) (S : Progress) → S.product.x ≤ number_bound * (k + 1)
    → S.product.y ≤ number_bound * (k + 1) → (part : Part) (σ : Symbol)
    → Stays k (step_after_factor part S σ)
after_factor_within k S x y part symbol.Blank = record
    { state = tt; exponents = record { x = x; y = y } }
after_factor_within k S x y part symbol.Times = record
    { state = tt; exponents = record { x = x; y = y } }
after_factor_within k S x y part (symbol.Sign g) = record
    { state = tt; exponents = record { x = omega arith; y = omega arith } }
after_factor_within k S x y Whole symbol.LineFeed = record
    { state = tt; exponents = record { x = omega arith; y = omega arith } }
after_factor_within k S x y Numerator symbol.LineFeed = tt
after_factor_within k S x y Denominator symbol.LineFeed = tt
after_factor_within k S x y Whole symbol.Close = tt
after_factor_within k S x y Numerator symbol.Close = record
    { state = tt; exponents = record { x = omega arith; y = omega arith } }
after_factor_within k S x y Denominator symbol.Close = record
    { state = tt; exponents = record { x = omega arith; y = omega arith } }
after_factor_within k S x y part _ = tt

open_line_within : (k : ℕ) (S : Progress) → HasExponents k S → (ls : List Line) (l : ℕ)
    → Stays k (open_line ls l S)
open_line_within k S w [] l = tt
open_line_within k S w (t ∷ ts) l = chosen_within k (record S { lines = ts })
    (record { x = w.x; y = w.y }) (eqb l t.letter) (start t.content) (go t.content)
  where
    go : (c : Content) → IsShortAt (start c)
    go content.Equation = tt
    go content.Element = tt

between_within : (k : ℕ) (S : Progress) → HasExponents k S → (σ : Symbol)
    → Stays k (step_between S σ)
between_within k S w symbol.Blank = moved k S w Between tt
between_within k S w symbol.LineFeed = moved k S w Between tt
between_within k S w (symbol.Letter l) = open_line_within k S w S.lines l
between_within k S w _ = tt

in_number_within : (k : ℕ) (S : Progress) → HasExponents k S → (n : Numeral) → IsShort n
    → (σ : Symbol) → IsDigitShort σ → Stays k (step_in_number n S σ)
in_number_within k S w n s (symbol.Digit d) h = pushed_within k S w n d h s InNumber (λ m t. t)
in_number_within k S w n s symbol.Blank h = record
    { state = tt; exponents = record { x = omega arith; y = omega arith } }
in_number_within k S w n s symbol.LineFeed h = record
    { state = tt; exponents = record { x = omega arith; y = omega arith } }
in_number_within k S w n s _ h = tt

in_digits_within : (k : ℕ) (S : Progress) → HasExponents k S
    → (part : Part) (role : Role) (n : Numeral) → IsShort n → (σ : Symbol) → IsDigitShort σ
    → Stays k (step_in_digits part role n S σ)
in_digits_within k S w part role n s (symbol.Digit d) h = pushed_within k S w n d h s
    (InDigits part role) (λ m t. t)
in_digits_within k S w part role n s σ h =
    let a = applied_within k S w role n.value (let v = short_value n s in omega arith) in
    after_factor_within k (apply role n.value S) a.0 a.1 part σ

after_variable_within : (k : ℕ) (S : Progress) → HasExponents k S
    → (part : Part) (v : Variable) (σ : Symbol) → Stays k (step_after_variable part v S σ)
after_variable_within k S w part v symbol.Blank = moved k S w (AfterVariable part v) tt
after_variable_within k S w part v symbol.Power = moved k S w (ExponentStart part v) tt
after_variable_within k S w part v σ =
    let a = applied_within k S w (Exponent v) 1 (lit≤ tt) in
    after_factor_within k (apply (Exponent v) 1 S) a.0 a.1 part σ

step_at_within : (k : ℕ) (p : State) (S : Progress) → IsShortAt p → HasExponents k S → (σ : Symbol)
    → IsDigitShort σ → Stays k (step_at p S σ)
step_at_within k Start S s w σ h = start_within k S w σ
step_at_within k Between S s w σ h = between_within k S w σ
step_at_within k NumberStart S s w σ h = number_start_within k S w σ h
step_at_within k (InNumber n) S s w σ h = in_number_within k S w n s σ h
step_at_within k LineEnd S s w σ h = line_end_within k S w σ
step_at_within k ElementStart S s w σ h = element_start_within k S w σ h
step_at_within k (PolynomialStart part) S s w σ h = polynomial_start_within k S w part σ h
step_at_within k (FactorStart part) S s w σ h = factor_start_within k S w part σ h
step_at_within k (InDigits part role n) S s w σ h = in_digits_within k S w part role n s σ h
step_at_within k (AfterVariable part v) S s w σ h = after_variable_within k S w part v σ
step_at_within k (ExponentStart part v) S s w σ h = exponent_start_within k S w part v σ h
step_at_within k (AfterFactor part) S s w σ h = let m = moved k S w Start tt in after_factor_within
    k S m.exponents.x m.exponents.y part σ
step_at_within k AfterNumerator S s w σ h = after_numerator_within k S w σ
step_at_within k AfterSlash S s w σ h = after_slash_within k S w σ

-- One symbol more.
pub step_within : (k : ℕ) (S T : Progress) (σ : Symbol) → IsDigitShort σ → IsWithin k S → step S σ
    ≡ Some T → IsWithin (k + 1) T
unfolding step
step_within k S T σ h w e = subst (Stays k) e (step_at_within k S.state S w.state w.exponents σ h)
