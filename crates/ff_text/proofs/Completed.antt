-- From each state some text goes on to an end.
use Rattle.std.proofs.Common.{◌≡◌, ℕ, ◌+◌, ◌*◌, Bool, true, false, cond, eqb, ltb, List, [], ◌∷◌}
use Rattle.std.proofs.Common.{◌++◌, Option, Some, None, refl, eq-eqb}
use Rattle.std.specs.Option.{option_map}
use Rattle.ff_text.specs.declared.symbol.Variable.{Variable}
use Rattle.ff_text.specs.declared.symbol.Symbol.{Symbol}
use Rattle.ff_text.specs.declared.symbol.Symbol.TheVariants as symbol
use Rattle.ff_text.specs.declared.layout.Content.{Content}
use Rattle.ff_text.specs.declared.layout.Content.TheVariants as content
use Rattle.ff_text.specs.declared.layout.Line.{Line}
use Rattle.ff_text.specs.declared.layout.Mode.{Mode}
use Rattle.ff_text.specs.declared.layout.Mode.TheVariants as mode
use Rattle.ff_text.specs.declared.reader.Part.{Part}
use Rattle.ff_text.specs.declared.reader.Part.TheVariants.{Whole, Numerator, Denominator}
use Rattle.ff_text.specs.declared.reader.Numeral.{Numeral}
use Rattle.ff_text.specs.declared.reader.Role.{Role}
use Rattle.ff_text.specs.declared.reader.Role.TheVariants.{Coefficient, Exponent}
use Rattle.ff_text.specs.declared.reader.State.{State}
use Rattle.ff_text.specs.declared.reader.State.TheVariants.{Start, Between, NumberStart, InNumber}
use Rattle.ff_text.specs.declared.reader.State.TheVariants.{LineEnd, ElementStart, PolynomialStart}
use Rattle.ff_text.specs.declared.reader.State.TheVariants.{FactorStart}
use Rattle.ff_text.specs.declared.reader.State.TheVariants.{InDigits, AfterVariable, ExponentStart}
use Rattle.ff_text.specs.declared.reader.State.TheVariants.{AfterFactor, AfterNumerator, AfterSlash}
use Rattle.ff_text.specs.Symbols.{symbol_of, symbols}
use Rattle.ff_text.specs.Grammar.{lines_of}
use Rattle.ff_text.specs.Reading.{Progress, step, step_at, then_step, walk, finish, first_digit}
use Rattle.ff_text.specs.Reading.{push_digit, allows, all_terms, clear, apply, end_number}
use Rattle.ff_text.specs.Reading.{step_line_end, step_text_start, step_between, open_line}
use Rattle.ff_text.specs.Reading.{step_number_start, step_in_number, step_element_start}
use Rattle.ff_text.specs.Reading.{step_polynomial_start, step_factor_start, step_in_digits}
use Rattle.ff_text.specs.Reading.{step_after_variable, step_exponent, step_after_factor}
use Rattle.ff_text.specs.Reading.{step_after_numerator, step_after_slash}
use Rattle.ff_text.proofs.Accepts.{Accepts}

-- each line begins with a letter of the grammar
abbrev pub HasLetters : List Line → Type 0
HasLetters [] = Unit {0}
HasLetters (k ∷ ks) = (symbol_of k.letter ≡ symbol.Letter k.letter) × HasLetters ks

pub form_has_letters : (m : Mode) → HasLetters (lines_of m)
unfolding symbol_of
form_has_letters mode.Iso = (refl, (refl, tt))
form_has_letters mode.Aut = (refl, tt)
form_has_letters mode.Order = (refl, tt)
form_has_letters mode.Check = (refl, (refl, (refl, (refl, (refl, (refl, tt))))))

-- the shortest lines
abbrev rest_of_lines : List Line → List ℕ
rest_of_lines [] = []
rest_of_lines (k ∷ ks) = k.letter ∷ 48 ∷ 10 ∷ rest_of_lines ks

-- the shortest way on from a state: after a polynomial ")/(0)" and the end of the line
abbrev closing : Part → List ℕ → List ℕ
closing Whole s = 10 ∷ s
closing Numerator s = 41 ∷ 47 ∷ 40 ∷ 48 ∷ 41 ∷ 10 ∷ s
closing Denominator s = 41 ∷ 10 ∷ s

abbrev completion : State → List ℕ → List ℕ
completion Start s = 112 ∷ 48 ∷ 10 ∷ s
completion Between s = s
completion NumberStart s = 48 ∷ 10 ∷ s
completion (InNumber n) s = 10 ∷ s
completion LineEnd s = 10 ∷ s
completion ElementStart s = 48 ∷ 10 ∷ s
completion (PolynomialStart part) s = 48 ∷ closing part s
completion (FactorStart part) s = 48 ∷ closing part s
completion (InDigits part role n) s = closing part s
completion (AfterVariable part v) s = closing part s
completion (ExponentStart part v) s = 48 ∷ closing part s
completion (AfterFactor part) s = closing part s
completion AfterNumerator s = 47 ∷ 40 ∷ 48 ∷ 41 ∷ 10 ∷ s
completion AfterSlash s = 40 ∷ 48 ∷ 41 ∷ 10 ∷ s

abbrev pub IsCompleted : Progress → List ℕ → Type 0
IsCompleted S s = (end : Progress) × Accepts end S (symbols s)

-- a polynomial that is a whole line, or a quotient, is over
abbrev end_of_line : Progress → Progress
end_of_line S = record (clear S) {
  entries = S.entries ++ record { numerator = all_terms S; denominator = None } ∷ [];
  state = Between;
}

abbrev end_of_quotient : Progress → Progress
end_of_quotient S = record (clear S) {
  entries = S.entries ++ record { numerator = S.numerator; denominator = Some (all_terms S) }
      ∷ [];
  numerator = [];
  state = Between;
}

-- the state in the denominator 0
abbrev in_denominator : Progress → Progress
in_denominator S = apply Coefficient 0 (record (clear S) { numerator = all_terms S })

line_completed : (c : Content) (s : List ℕ) (S : Progress) (ks : List Line)
    → ((T : Progress) → IsCompleted (record T { lines = ks; state = Between }) s)
    → IsCompleted (record S { lines = ks; state = Rattle.ff_text.specs.Reading.start c })
    (48 ∷ 10 ∷ s)
unfolding step symbol_of
line_completed content.Equation s S ks next = next (end_of_line (apply Coefficient 0 S))
line_completed content.Element s S ks next = next (end_of_line (apply Coefficient 0 S))

lines_completed : (ls : List Line) → HasLetters ls → (S : Progress)
    → IsCompleted (record S { lines = ls; state = Between }) (rest_of_lines ls)
unfolding step symbol_of
lines_completed [] h S = (record S { lines = []; state = Between }, refl)
lines_completed (k ∷ ks) h S = rw (h.0, eq-eqb k.letter k.letter refl)
    (line_completed k.content (rest_of_lines ks) S ks (lines_completed ks h.1))

Next : List Line → List ℕ → Type 0
Next ls s = (T : Progress) → IsCompleted (record T { lines = ls; state = Between }) s

closed : (part : Part) (S : Progress) (s : List ℕ) → Next S.lines s
    → IsCompleted (record S { state = AfterFactor part }) (closing part s)
unfolding step symbol_of Next
closed Whole S s next = next (end_of_line S)
closed Numerator S s next = next (end_of_quotient (in_denominator S))
closed Denominator S s next = next (end_of_quotient S)

digits_closed : (part : Part) (role : Role) (n : Numeral) (S : Progress) (s : List ℕ)
    → Next S.lines s → IsCompleted (record S { state = InDigits part role n }) (closing part s)
unfolding step symbol_of Next
digits_closed Whole role n S s next = next (end_of_line (apply role n.value S))
digits_closed Numerator role n S s next = next
    (end_of_quotient (in_denominator (apply role n.value S)))
digits_closed Denominator role n S s next = next (end_of_quotient (apply role n.value S))

variable_closed : (part : Part) (v : Variable) (S : Progress) (s : List ℕ) → Next S.lines s
    → IsCompleted (record S { state = AfterVariable part v }) (closing part s)
unfolding step symbol_of Next
variable_closed Whole v S s next = next (end_of_line (apply (Exponent v) 1 S))
variable_closed Numerator v S s next = next
    (end_of_quotient (in_denominator (apply (Exponent v) 1 S)))
variable_closed Denominator v S s next = next (end_of_quotient (apply (Exponent v) 1 S))

-- each state has a way on
completed_at : (p : State) (S : Progress) (s : List ℕ) → Next S.lines s
    → IsCompleted (record S { state = p }) (completion p s)
unfolding step symbol_of Next
completed_at Start S s next = next (end_number 0 S)
completed_at Between S s next = next S
completed_at NumberStart S s next = next (end_number 0 S)
completed_at (InNumber n) S s next = next (end_number n.value S)
completed_at LineEnd S s next = next S
completed_at ElementStart S s next = next (end_of_line (apply Coefficient 0 S))
completed_at (PolynomialStart part) S s next = digits_closed part Coefficient (first_digit 0) S s
    next
completed_at (FactorStart part) S s next = digits_closed part Coefficient (first_digit 0) S s next
completed_at (InDigits part role n) S s next = digits_closed part role n S s next
completed_at (AfterVariable part v) S s next = variable_closed part v S s next
completed_at (ExponentStart part v) S s next = digits_closed part (Exponent v) (first_digit 0) S s
    next
completed_at (AfterFactor part) S s next = closed part S s next
completed_at AfterNumerator S s next = next (end_of_quotient (apply Coefficient 0 S))
completed_at AfterSlash S s next = next (end_of_quotient (apply Coefficient 0 S))

-- From each state with lines of the grammar some bytes go on to an end.
pub completed : (S : Progress) → HasLetters S.lines → (more : List ℕ) × IsCompleted S more
unfolding Next
completed S h = (
  completion S.state (rest_of_lines S.lines),
  completed_at S.state S
      (rest_of_lines S.lines) (lines_completed S.lines h),
)

-- ---- A step keeps the letters

abbrev pub Keeps : Option Progress → Type 0
Keeps None = Unit {0}
Keeps (Some S) = HasLetters S.lines

module _ (S : Progress) (h : HasLetters S.lines) where
  chosen_keeps : (b : Bool) (p : State) → Keeps (cond b (Some (record S { state = p })) None)
  chosen_keeps true p = h
  chosen_keeps false p = tt

  pushed_keeps : (n : Numeral) (d : ℕ) (f : Numeral → State)
      → Keeps (option_map (λ m. record S { state = f m }) (push_digit n d))
  pushed_keeps n d f = go (ltb n.digits 9)
    where
      go : (b : Bool) → Keeps (option_map (λ m. record S { state = f m }) (cond b (Some (record {
        value = 10 * n.value + d;
        digits = n.digits + 1;
      })) None))
      go true = h
      go false = tt

  line_end_keeps : (σ : Symbol) → Keeps (step_line_end S σ)
  line_end_keeps symbol.Blank = h
  line_end_keeps symbol.LineFeed = h
  line_end_keeps _ = tt

  start_keeps : (σ : Symbol) → Keeps (step_text_start S σ)
  start_keeps symbol.Blank = h
  start_keeps symbol.LineFeed = h
  start_keeps (symbol.Letter l) = chosen_keeps (eqb l 112) NumberStart
  start_keeps _ = tt

  number_start_keeps : (σ : Symbol) → Keeps (step_number_start S σ)
  number_start_keeps symbol.Blank = h
  number_start_keeps (symbol.Digit d) = h
  number_start_keeps _ = tt

  factor_start_keeps : (part : Part) (σ : Symbol) → Keeps (step_factor_start part S σ)
  factor_start_keeps part symbol.Blank = h
  factor_start_keeps part (symbol.Digit d) = h
  factor_start_keeps part (symbol.Variable v) = chosen_keeps (allows part v) (AfterVariable part v)
  factor_start_keeps part _ = tt

  polynomial_start_keeps : (part : Part) (σ : Symbol) → Keeps (step_polynomial_start part S σ)
  polynomial_start_keeps part symbol.Blank = h
  polynomial_start_keeps part (symbol.Sign g) = h
  polynomial_start_keeps part σ = factor_start_keeps part σ

  element_start_keeps : (σ : Symbol) → Keeps (step_element_start S σ)
  element_start_keeps symbol.Blank = h
  element_start_keeps symbol.Open = h
  element_start_keeps σ = polynomial_start_keeps Whole σ

  after_factor_keeps : (part : Part) (σ : Symbol) → Keeps (step_after_factor part S σ)
  after_factor_keeps part symbol.Blank = h
  after_factor_keeps part symbol.Times = h
  after_factor_keeps part (symbol.Sign g) = h
  after_factor_keeps Whole symbol.LineFeed = h
  after_factor_keeps Numerator symbol.LineFeed = tt
  after_factor_keeps Denominator symbol.LineFeed = tt
  after_factor_keeps Whole symbol.Close = tt
  after_factor_keeps Numerator symbol.Close = h
  after_factor_keeps Denominator symbol.Close = h
  after_factor_keeps part _ = tt

  exponent_start_keeps : (part : Part) (v : Variable) (σ : Symbol)
      → Keeps (step_exponent part v S σ)
  exponent_start_keeps part v symbol.Blank = h
  exponent_start_keeps part v (symbol.Digit d) = h
  exponent_start_keeps part v _ = tt

  after_numerator_keeps : (σ : Symbol) → Keeps (step_after_numerator S σ)
  after_numerator_keeps symbol.Blank = h
  after_numerator_keeps symbol.Slash = h
  after_numerator_keeps _ = tt

  after_slash_keeps : (σ : Symbol) → Keeps (step_after_slash S σ)
  after_slash_keeps symbol.Blank = h
  after_slash_keeps symbol.Open = h
  after_slash_keeps _ = tt

in_number_keeps : (S : Progress) → HasLetters S.lines → (n : Numeral) (σ : Symbol)
    → Keeps (step_in_number n S σ)
in_number_keeps S h n (symbol.Digit d) = pushed_keeps S h n d InNumber
in_number_keeps S h n σ = line_end_keeps (end_number n.value S) h σ

in_digits_keeps : (S : Progress) → HasLetters S.lines
    → (part : Part) (role : Role) (n : Numeral) (σ : Symbol)
    → Keeps (step_in_digits part role n S σ)
in_digits_keeps S h part role n (symbol.Digit d) = pushed_keeps S h n d (InDigits part role)
in_digits_keeps S h part role n σ = after_factor_keeps (apply role n.value S) h part σ

after_variable_keeps : (S : Progress) → HasLetters S.lines
    → (part : Part) (v : Variable) (σ : Symbol) → Keeps (step_after_variable part v S σ)
after_variable_keeps S h part v symbol.Blank = h
after_variable_keeps S h part v symbol.Power = h
after_variable_keeps S h part v σ = after_factor_keeps (apply (Exponent v) 1 S) h part σ

open_line_keeps : (S : Progress) (ls : List Line) → HasLetters ls → (l : ℕ)
    → Keeps (open_line ls l S)
open_line_keeps S [] h l = tt
open_line_keeps S (k ∷ ks) h l = chosen_keeps (record S { lines = ks }) h.1 (eqb l k.letter)
    (Rattle.ff_text.specs.Reading.start k.content)

between_keeps : (S : Progress) → HasLetters S.lines → (σ : Symbol) → Keeps (step_between S σ)
between_keeps S h symbol.Blank = h
between_keeps S h symbol.LineFeed = h
between_keeps S h (symbol.Letter l) = open_line_keeps S S.lines h l
between_keeps S h _ = tt

step_keeps : (p : State) (S : Progress) → HasLetters S.lines → (σ : Symbol) → Keeps (step_at p S σ)
step_keeps Start S h σ = start_keeps S h σ
step_keeps Between S h σ = between_keeps S h σ
step_keeps NumberStart S h σ = number_start_keeps S h σ
step_keeps (InNumber n) S h σ = in_number_keeps S h n σ
step_keeps LineEnd S h σ = line_end_keeps S h σ
step_keeps ElementStart S h σ = element_start_keeps S h σ
step_keeps (PolynomialStart part) S h σ = polynomial_start_keeps S h part σ
step_keeps (FactorStart part) S h σ = factor_start_keeps S h part σ
step_keeps (InDigits part role n) S h σ = in_digits_keeps S h part role n σ
step_keeps (AfterVariable part v) S h σ = after_variable_keeps S h part v σ
step_keeps (ExponentStart part v) S h σ = exponent_start_keeps S h part v σ
step_keeps (AfterFactor part) S h σ = after_factor_keeps S h part σ
step_keeps AfterNumerator S h σ = after_numerator_keeps S h σ
step_keeps AfterSlash S h σ = after_slash_keeps S h σ

then_keeps : (o : Option Progress) → Keeps o → (σ : Symbol) → Keeps (then_step o σ)
unfolding step
then_keeps None h σ = tt
then_keeps (Some S) h σ = step_keeps S.state S h σ

-- Each state on the way has lines of the grammar.
pub walk_keeps : (s : List Symbol) (o : Option Progress) → Keeps o → Keeps (walk o s)
walk_keeps [] o h = h
walk_keeps (σ ∷ s) o h = walk_keeps s (then_step o σ) (then_keeps o h σ)
