-- What is read to its end is derived by the grammar.
use Rattle.std.proofs.Common.{◌≡◌, ℕ, suc, ◌+◌, ◌-◌, ◌*◌, ◌<◌, Bool, true, false, cond, ltb, eqb}
use Rattle.std.proofs.Common.{List, [], ◌∷◌, ◌++◌, length, Option, Some, None, refl, sym}
use Rattle.std.proofs.Common.{subst, arith, ◌&&◌}
use Rattle.std.specs.Option.{option_map}
use Rattle.std.proofs.lemmas.Bool.{ltb-true, eqb-true}
use Rattle.std.proofs.lemmas.List.{nil_from_length}
use Rattle.ff_theory.proofs.Booleans.{both}
use Rattle.ff_text.specs.declared.symbol.Sign.{Sign}
use Rattle.ff_text.specs.declared.symbol.Variable.{Variable}
use Rattle.ff_text.specs.declared.symbol.Variable.TheVariants.{X, Y}
use Rattle.ff_text.specs.declared.symbol.Symbol.{Symbol}
use Rattle.ff_text.specs.declared.symbol.Symbol.TheVariants as symbol
use Rattle.ff_text.specs.declared.layout.Content.{Content}
use Rattle.ff_text.specs.declared.layout.Content.TheVariants as content
use Rattle.ff_text.specs.declared.layout.Line.{Line}
use Rattle.ff_text.specs.declared.layout.Mode.{Mode}
use Rattle.ff_text.specs.declared.reader.Monomial.{Monomial}
use Rattle.ff_text.specs.declared.reader.Part.{Part}
use Rattle.ff_text.specs.declared.reader.Part.TheVariants.{Whole, Numerator, Denominator}
use Rattle.ff_text.specs.declared.reader.Role.{Role}
use Rattle.ff_text.specs.declared.reader.Role.TheVariants.{Coefficient, Exponent}
use Rattle.ff_text.specs.declared.reader.Numeral.{Numeral}
use Rattle.ff_text.specs.declared.reader.State.{State}
use Rattle.ff_text.specs.declared.reader.State.TheVariants.{Start, Between, NumberStart, InNumber}
use Rattle.ff_text.specs.declared.reader.State.TheVariants.{LineEnd, ElementStart, PolynomialStart}
use Rattle.ff_text.specs.declared.reader.State.TheVariants.{FactorStart}
use Rattle.ff_text.specs.declared.reader.State.TheVariants.{InDigits, AfterVariable, ExponentStart}
use Rattle.ff_text.specs.declared.reader.State.TheVariants.{AfterFactor, AfterNumerator, AfterSlash}
use Rattle.ff_text.specs.Grammar as grammar
use Rattle.ff_text.specs.Grammar.{monomial, Blanks, Spaces, Digits, Number, Factor, Product}
use Rattle.ff_text.specs.Grammar.{SignedTerms, Polynomial, Element, Lines, IsText, Term, Entry}
use Rattle.ff_text.specs.Grammar.{Text, lines_of}
use Rattle.ff_text.specs.Reading.{Progress, walk, finish, if_done, step, step_at, push_digit}
use Rattle.ff_text.specs.Reading.{first_digit, allows, all_terms, is_whole, is_between, initial}
use Rattle.ff_text.specs.Reading.{start, step_after_factor, step_line_end, step_factor_start}
use Rattle.ff_text.specs.Reading.{step_polynomial_start, step_element_start, open_line, close}
use Rattle.ff_text.specs.Reading.{step_between, step_text_start, step_number_start, step_in_number}
use Rattle.ff_text.specs.Reading.{end_number, end_line, clear, next_term, step_in_digits}
use Rattle.ff_text.specs.Reading.{step_after_variable, step_exponent, step_after_numerator}
use Rattle.ff_text.specs.Reading.{step_after_slash, apply}
use Rattle.ff_text.proofs.Accepts.{Accepts, not_accepted}

-- ---- What is left of a text at each state

-- after the last token of a line
data LineRest : List Line → List Symbol → Type 0 where
  rest : {ls : List Line} {s t r : List Symbol} {es : List Entry} → Blanks s t → grammar.LineEnd t r
      → Lines ls r es → LineRest ls s

-- before a denominator, its parenthesis and its slash
data DenominatorFrom : List Line → List Symbol → Type 0 where
  from : {ls : List Line} {s t r : List Symbol} {ts : List Term} → Blanks s t
      → Polynomial false t ts (symbol.Close ∷ r) → LineRest ls r → DenominatorFrom ls s

data OpenFrom : List Line → List Symbol → Type 0 where
  from : {ls : List Line} {s r : List Symbol} → Blanks s (symbol.Open ∷ r) → DenominatorFrom ls r
      → OpenFrom ls s

data SlashFrom : List Line → List Symbol → Type 0 where
  from : {ls : List Line} {s r : List Symbol} → Blanks s (symbol.Slash ∷ r) → OpenFrom ls r
      → SlashFrom ls s

-- after a polynomial
data PartRest : Part → List Line → List Symbol → Type 0 where
  whole : {ls : List Line} {s r : List Symbol} {es : List Entry} → grammar.LineEnd s r
      → Lines ls r es → PartRest Whole ls s
  numerator : {ls : List Line} {r : List Symbol} → SlashFrom ls r
      → PartRest Numerator ls (symbol.Close ∷ r)
  denominator : {ls : List Line} {r : List Symbol} → LineRest ls r
      → PartRest Denominator ls (symbol.Close ∷ r)

-- after a factor: more factors
data ProductRest : Bool → List Symbol → List Symbol → Type 0 where
  none : {y : Bool} {r : List Symbol} → ProductRest y r r
  more : {y : Bool} {s t r : List Symbol} {a : Monomial} → Blanks s t → Product y t a r
      → ProductRest y (symbol.Times ∷ s) r

-- after a factor, after its blanks and before them
data TermRest : Part → List Line → List Symbol → Type 0 where
  rest : {part : Part} {ls : List Line} {s t r : List Symbol} {ts : List Term}
      → ProductRest (allows part Y) s t → SignedTerms (allows part Y) t ts r → PartRest part ls r
      → TermRest part ls s

data FactorRest : Part → List Line → List Symbol → Type 0 where
  rest : {part : Part} {ls : List Line} {s r : List Symbol} → Blanks s r → TermRest part ls r
      → FactorRest part ls s

-- after a variable
data VariableRest : Part → List Line → List Symbol → Type 0 where
  rest : {part : Part} {ls : List Line} {s t r : List Symbol} {n : ℕ} → Blanks s t
      → grammar.Exponent t n r → TermRest part ls r → VariableRest part ls s

data ExponentFrom : Part → List Line → List Symbol → Type 0 where
  from : {part : Part} {ls : List Line} {s t r : List Symbol} {n : ℕ} → Blanks s t → Number t n r
      → FactorRest part ls r → ExponentFrom part ls s

-- before a factor, before a polynomial, and before an element
data TermsFrom : Part → List Line → List Symbol → Type 0 where
  from : {part : Part} {ls : List Line} {s t u r : List Symbol} {a : Monomial} {ts : List Term}
      → Blanks s t → Product (allows part Y) t a u → SignedTerms (allows part Y) u ts r
      → PartRest part ls r → TermsFrom part ls s

data PolynomialFrom : Part → List Line → List Symbol → Type 0 where
  from : {part : Part} {ls : List Line} {s t r : List Symbol} {ts : List Term} → Blanks s t
      → Polynomial (allows part Y) t ts r → PartRest part ls r → PolynomialFrom part ls s

data ElementFrom : List Line → List Symbol → Type 0 where
  from : {ls : List Line} {s t u r : List Symbol} {e : Entry} {es : List Entry} → Blanks s t
      → Element t e u → grammar.LineEnd u r → Lines ls r es → ElementFrom ls s

-- within a number
data DigitsRest : Numeral → List Symbol → List Symbol → Type 0 where
  none : {n : Numeral} {s : List Symbol} → DigitsRest n s s
  more : {n : Numeral} {m : ℕ} {s r : List Symbol} → Digits n.value (9 - n.digits) s m r
      → DigitsRest n s r

data InNumberRest : Numeral → List Line → List Symbol → Type 0 where
  rest : {n : Numeral} {ls : List Line} {s r : List Symbol} → DigitsRest n s r → LineRest ls r
      → InNumberRest n ls s

data InDigitsRest : Numeral → Part → List Line → List Symbol → Type 0 where
  rest : {n : Numeral} {part : Part} {ls : List Line} {s r : List Symbol} → DigitsRest n s r
      → FactorRest part ls r → InDigitsRest n part ls s

data NumberFrom : List Line → List Symbol → Type 0 where
  from : {ls : List Line} {s t r : List Symbol} {n : ℕ} → Blanks s t → Number t n r → LineRest ls r
      → NumberFrom ls s

-- before a line
data LinesFrom : List Line → List Symbol → Type 0 where
  from : {ls : List Line} {s : List Symbol} {es : List Entry} → Lines ls s es → LinesFrom ls s

data TextFrom : List Line → List Symbol → Type 0 where
  from : {ls : List Line} {s : List Symbol} {v : Text} → IsText ls s v → TextFrom ls s

abbrev Rest : State → List Line → List Symbol → Type 0
Rest Start ls s = TextFrom ls s
Rest Between ls s = LinesFrom ls s
Rest NumberStart ls s = NumberFrom ls s
Rest (InNumber n) ls s = InNumberRest n ls s
Rest LineEnd ls s = LineRest ls s
Rest ElementStart ls s = ElementFrom ls s
Rest (PolynomialStart part) ls s = PolynomialFrom part ls s
Rest (FactorStart part) ls s = TermsFrom part ls s
Rest (InDigits part role n) ls s = InDigitsRest n part ls s
Rest (AfterVariable part v) ls s = VariableRest part ls s
Rest (ExponentStart part v) ls s = ExponentFrom part ls s
Rest (AfterFactor part) ls s = FactorRest part ls s
Rest AfterNumerator ls s = SlashFrom ls s
Rest AfterSlash ls s = OpenFrom ls s

-- ---- One step back

some_is : (T S : Progress) → Some T ≡ Some S → T ≡ S
some_is T S e = cc

-- the step led there
came : (s : List Symbol) (T S : Progress) → Some T ≡ Some S → Rest S.state S.lines s
    → Rest T.state T.lines s
came s T S e h = subst (λ (U : Progress). Rest U.state U.lines s) (sym (some_is T S e)) h

nothing : {A : Type 0} (S : Progress) → ◌≡◌ {A = Option Progress} None (Some S) → A
nothing S e = absurd cc

module _ (s : List Symbol) where
  at_line_end : (S S' : Progress) (σ : Symbol) → step_line_end S σ ≡ Some S'
      → Rest S'.state S'.lines s → LineRest S.lines (σ ∷ s)
  at_line_end S S' symbol.Blank e h = elim (came s (record S { state = LineEnd }) S' e h)
      [ LineRest.rest b l r ↦ LineRest.rest (Blanks.blank b) l r ]
  at_line_end S S' symbol.LineFeed e h = elim (came s (record S { state = Between }) S' e h)
      [ LinesFrom.from r ↦ LineRest.rest Blanks.none grammar.LineEnd.feed r ]
  at_line_end S S' _ e h = nothing S' e

  chosen : (b : Bool) (T S' : Progress) → cond b (Some T) None ≡ Some S' → (b ≡ true)
      × (Some T ≡ Some S')
  chosen true T S' e = (refl, e)
  chosen false T S' e = nothing S' e

  opened_line : (c : Content) (k : ℕ) (ls : List Line) → Rest (start c) ls s
      → LinesFrom (record { letter = k; content = c } ∷ ls) (symbol.Letter k ∷ s)
  opened_line content.Equation k ls h = elim h [ PolynomialFrom.from b p q ↦ whole_line b p q ]
    where
      whole_line : {t r : List Symbol} {ts : List Term} → Blanks s t → Polynomial true t ts r
          → PartRest Whole ls r → LinesFrom (record { letter = k; content = content.Equation } ∷ ls)
          (symbol.Letter k ∷ s)
      whole_line b p (PartRest.whole l r) = LinesFrom.from (Lines.equation Spaces.none b p l r)
  opened_line content.Element k ls h = elim h
      [ ElementFrom.from b p l r ↦ LinesFrom.from (Lines.element Spaces.none b p l r) ]

  opened : (ls : List Line) (l : ℕ) (S S' : Progress) → open_line ls l S ≡ Some S'
      → Rest S'.state S'.lines s → LinesFrom ls (symbol.Letter l ∷ s)
  opened [] l S S' e h = nothing S' e
  opened (k ∷ ks) l S S' e h =
      let T = record S { lines = ks; state = start k.content } in
      let c = chosen (eqb l k.letter) T S' e in
      rw (eqb-true l k.letter c.0) (opened_line k.content k.letter ks (came s T S' c.1 h))

  spaces_before : (ls : List Line) → LinesFrom ls s → LinesFrom ls (symbol.Blank ∷ s)
      × LinesFrom ls (symbol.LineFeed ∷ s)
  spaces_before ls (LinesFrom.from (Lines.none a)) = (
    LinesFrom.from (Lines.none (Spaces.blank a)),
    LinesFrom.from (Lines.none (Spaces.feed a)),
  )
  spaces_before ls (LinesFrom.from (Lines.equation a b p l r)) = (
    LinesFrom.from
        (Lines.equation (Spaces.blank a) b p l r),
    LinesFrom.from
        (Lines.equation (Spaces.feed a) b p l r),
  )
  spaces_before ls (LinesFrom.from (Lines.element a b p l r)) = (
    LinesFrom.from
        (Lines.element (Spaces.blank a) b p l r),
    LinesFrom.from
        (Lines.element (Spaces.feed a) b p l r),
  )

  at_between : (S S' : Progress) (σ : Symbol) → step_between S σ ≡ Some S'
      → Rest S'.state S'.lines s → LinesFrom S.lines (σ ∷ s)
  at_between S S' symbol.Blank e
      h = (spaces_before S.lines (came s (record S { state = Between }) S' e h)).0
  at_between S S' symbol.LineFeed e
      h = (spaces_before S.lines (came s (record S { state = Between }) S' e h)).1
  at_between S S' (symbol.Letter l) e h = opened S.lines l S S' e h
  at_between S S' _ e h = nothing S' e

  at_start : (S S' : Progress) (σ : Symbol) → step_text_start S σ ≡ Some S'
      → Rest S'.state S'.lines s → TextFrom S.lines (σ ∷ s)
  at_start S S' symbol.Blank e h = elim (came s (record S { state = Start }) S' e h) [
    | TextFrom.from (IsText.text a b d c l r) ↦ TextFrom.from
        (IsText.text (Spaces.blank a) b d c l r)
  ]
  at_start S S' symbol.LineFeed e h = elim (came s (record S { state = Start }) S' e h) [
    | TextFrom.from (IsText.text a b d c l r) ↦ TextFrom.from
        (IsText.text (Spaces.feed a) b d c l r)
  ]
  at_start S S' (symbol.Letter l) e h =
      let T = record S { state = NumberStart } in
      let c = chosen (eqb l 112) T S' e in
      rw (eqb-true l 112 c.0) (elim (came s T S' c.1 h) [
        | NumberFrom.from b d (LineRest.rest c l r)
            ↦ TextFrom.from (IsText.text Spaces.none b d c l r)
      ])
  at_start S S' _ e h = nothing S' e

  -- a digit more
  pushed : (n : Numeral) (d : ℕ) (f : Numeral → Progress) (S' : Progress)
      → option_map f (push_digit n d) ≡ Some S'
      → (n.digits < 9) × (Some (f (record { value = 10 * n.value + d; digits = n.digits + 1 }))
      ≡ Some S')
  pushed n d f S' e = go (ltb n.digits 9) refl e
    where
      go : (b : Bool) → ltb n.digits 9 ≡ b
          → option_map f (cond b (Some (record { value = 10 * n.value + d; digits = n.digits + 1 }))
          None) ≡ Some S'
          → (n.digits < 9) × (Some (f (record { value = 10 * n.value + d; digits = n.digits + 1 }))
          ≡ Some S')
      go true t g = (ltb-true _ _ t, g)
      go false t g = nothing S' g

  digits_first : (d : ℕ) {r : List Symbol} → DigitsRest (first_digit d) s r → (n : ℕ)
      × Number (symbol.Digit d ∷ s) n r
  digits_first d DigitsRest.none = (10 * 0 + d, Digits.last)
  digits_first d {r} (DigitsRest.more {m = m} h) = (
    m,
    Digits.more
        (let e : d ≡ 10 * 0 + d = omega arith in subst (λ v. Digits v 8 s m r) e h),
  )

  digits_back : (n : Numeral) (d : ℕ) {r : List Symbol} → n.digits < 9
      → DigitsRest (record { value = 10 * n.value + d; digits = n.digits + 1 }) s r
      → DigitsRest n (symbol.Digit d ∷ s) r
  digits_back n d lt DigitsRest.none = DigitsRest.more
      (let e : suc (9 - (n.digits + 1))
      ≡ 9 - n.digits = omega arith in subst
      (λ k. Digits n.value k (symbol.Digit d ∷ s) (10 * n.value + d) s) e Digits.last)
  digits_back n d {r} lt (DigitsRest.more {m = m} h) = DigitsRest.more
      (let e : suc (9 - (n.digits + 1))
      ≡ 9 - n.digits = omega arith in subst (λ k. Digits n.value k (symbol.Digit d ∷ s) m r) e
      (Digits.more h))

  number_first : (ls : List Line) (d : ℕ) → InNumberRest (first_digit d) ls s
      → NumberFrom ls (symbol.Digit d ∷ s)
  number_first ls d (InNumberRest.rest g r) = NumberFrom.from Blanks.none (digits_first d g).1 r

  at_number_start : (S S' : Progress) (σ : Symbol) → step_number_start S σ ≡ Some S'
      → Rest S'.state S'.lines s → NumberFrom S.lines (σ ∷ s)
  at_number_start S S' symbol.Blank e h = elim (came s (record S { state = NumberStart }) S' e h)
      [ NumberFrom.from b d r ↦ NumberFrom.from (Blanks.blank b) d r ]
  at_number_start S S' (symbol.Digit d) e h = number_first S.lines d
      (came s (record S { state = InNumber (first_digit d) }) S' e h)
  at_number_start S S' _ e h = nothing S' e

  number_back : (n : Numeral) (ls : List Line) (d : ℕ) → n.digits < 9
      → InNumberRest (record { value = 10 * n.value + d; digits = n.digits + 1 }) ls s
      → InNumberRest n ls (symbol.Digit d ∷ s)
  number_back n ls d lt (InNumberRest.rest g r) = InNumberRest.rest (digits_back n d lt g) r

  at_in_number : (n : Numeral) (S S' : Progress) (σ : Symbol) → step_in_number n S σ ≡ Some S'
      → Rest S'.state S'.lines s → InNumberRest n S.lines (σ ∷ s)
  at_in_number n S S' (symbol.Digit d) e h =
      let p = pushed n d (λ m. record S { state = InNumber m }) S' e in
      number_back n S.lines d p.0 (came s (record S {
        state = InNumber (record {
          value = 10 *
              n.value + d;
          digits = n.digits + 1;
        });
      }) S' p.1 h)
  at_in_number n S S' σ e h = InNumberRest.rest DigitsRest.none
      (at_line_end (end_number n.value S) S' σ e h)

  -- ---- Within a polynomial

  -- the part is over
  at_close : (part : Part) (S S' : Progress) → close part S ≡ Some S' → Rest S'.state S'.lines s
      → PartRest part S.lines (symbol.Close ∷ s)
  at_close Whole S S' e h = nothing S' e
  at_close Numerator S S' e h = PartRest.numerator
      (came s (record (clear S) { numerator = all_terms S; state = AfterNumerator }) S' e h)
  at_close Denominator S S' e h = PartRest.denominator
      (came s (record (clear S) {
        entries = S.entries ++ record {
          numerator = S.numerator;
          denominator = Some (all_terms S);
        } ∷ [];
        numerator = [];
        state = LineEnd;
      }) S' e h)

  at_line_feed : (part : Part) (S S' : Progress) → cond (is_whole part) (end_line S) None ≡ Some S'
      → Rest S'.state S'.lines s → PartRest part S.lines (symbol.LineFeed ∷ s)
  at_line_feed Whole S S' e h = elim
      (came s (record (clear S) {
        entries = S.entries ++ record {
          numerator = all_terms S;
          denominator = None;
        } ∷ [];
        state = Between;
      }) S' e h)
      [ LinesFrom.from r ↦ PartRest.whole grammar.LineEnd.feed r ]
  at_line_feed Numerator S S' e h = nothing S' e
  at_line_feed Denominator S S' e h = nothing S' e

  times_rest : (part : Part) (ls : List Line) → TermsFrom part ls s
      → TermRest part ls (symbol.Times ∷ s)
  times_rest part ls (TermsFrom.from b p ts r) = TermRest.rest (ProductRest.more b p) ts r

  sign_rest : (part : Part) (ls : List Line) (g : Sign) → TermsFrom part ls s
      → TermRest part ls (symbol.Sign g ∷ s)
  sign_rest part ls g (TermsFrom.from b p ts r) = TermRest.rest ProductRest.none
      (SignedTerms.more b p ts) r

  -- after a factor, at a symbol that is no blank
  at_term_rest : (part : Part) (S S' : Progress) (σ : Symbol) → (σ ≡ symbol.Blank → ⊥)
      → step_after_factor part S σ ≡ Some S' → Rest S'.state S'.lines s
      → TermRest part S.lines (σ ∷ s)
  at_term_rest part S S' symbol.Blank n e h = absurd (n refl)
  at_term_rest part S S' symbol.Times n e h = times_rest part S.lines
      (came s (record S { state = FactorStart part }) S' e h)
  at_term_rest part S S' (symbol.Sign g) n e h = sign_rest part S.lines g
      (came s (record (next_term S) { sign = g; state = FactorStart part }) S' e h)
  at_term_rest part S S' symbol.LineFeed n e h = TermRest.rest ProductRest.none SignedTerms.none
      (at_line_feed part S S' e h)
  at_term_rest part S S' symbol.Close n e h = TermRest.rest ProductRest.none SignedTerms.none
      (at_close part S S' e h)
  at_term_rest part S S' _ n e h = nothing S' e

  blank_factor : (part : Part) (ls : List Line) → FactorRest part ls s
      → FactorRest part ls (symbol.Blank ∷ s)
  blank_factor part ls (FactorRest.rest b r) = FactorRest.rest (Blanks.blank b) r

  at_after_factor : (part : Part) (S S' : Progress) (σ : Symbol) → step_after_factor part S σ
      ≡ Some S' → Rest S'.state S'.lines s → FactorRest part S.lines (σ ∷ s)
  at_after_factor part S S' symbol.Blank e h = blank_factor part S.lines
      (came s (record S { state = AfterFactor part }) S' e h)
  at_after_factor part S S' σ e h = FactorRest.rest Blanks.none
      (at_term_rest part S S' σ (λ f. absurd cc) e h)

  digits_more : (n : Numeral) (part : Part) (ls : List Line) (d : ℕ) → n.digits < 9
      → InDigitsRest (record { value = 10 * n.value + d; digits = n.digits + 1 }) part ls s
      → InDigitsRest n part ls (symbol.Digit d ∷ s)
  digits_more n part ls d lt (InDigitsRest.rest g r) = InDigitsRest.rest (digits_back n d lt g) r

  at_in_digits : (part : Part) (role : Role) (n : Numeral) (S S' : Progress) (σ : Symbol)
      → step_in_digits part role n S σ ≡ Some S' → Rest S'.state S'.lines s
      → InDigitsRest n part S.lines (σ ∷ s)
  at_in_digits part role n S S' (symbol.Digit d) e h =
      let p = pushed n d (λ m. record S { state = InDigits part role m }) S' e in
      digits_more n part S.lines d p.0
      (came s (record S {
        state = InDigits part role
            (record { value = 10 * n.value + d; digits = n.digits + 1 });
      }) S' p.1 h)
  at_in_digits part role n S S' σ e h = InDigitsRest.rest DigitsRest.none
      (at_after_factor part (apply role n.value S) S' σ e h)

  power_rest : (part : Part) (ls : List Line) → ExponentFrom part ls s
      → VariableRest part ls (symbol.Power ∷ s)
  power_rest part ls (ExponentFrom.from b d (FactorRest.rest c r)) = VariableRest.rest Blanks.none
      (grammar.Exponent.power b d c) r

  blank_variable : (part : Part) (ls : List Line) → VariableRest part ls s
      → VariableRest part ls (symbol.Blank ∷ s)
  blank_variable part ls (VariableRest.rest b e r) = VariableRest.rest (Blanks.blank b) e r

  at_after_variable : (part : Part) (v : Variable) (S S' : Progress) (σ : Symbol)
      → step_after_variable part v S σ ≡ Some S' → Rest S'.state S'.lines s
      → VariableRest part S.lines (σ ∷ s)
  at_after_variable part v S S' symbol.Blank e h = blank_variable part S.lines
      (came s (record S { state = AfterVariable part v }) S' e h)
  at_after_variable part v S S' symbol.Power e h = power_rest part S.lines
      (came s (record S { state = ExponentStart part v }) S' e h)
  at_after_variable part v S S' σ e h = VariableRest.rest Blanks.none grammar.Exponent.none
      (at_term_rest part (apply (Exponent v) 1 S) S' σ (λ f. absurd cc) e h)

  exponent_first : (part : Part) (ls : List Line) (d : ℕ) → InDigitsRest (first_digit d) part ls s
      → ExponentFrom part ls (symbol.Digit d ∷ s)
  exponent_first part ls d (InDigitsRest.rest g r) = ExponentFrom.from Blanks.none
      (digits_first d g).1 r

  blank_exponent : (part : Part) (ls : List Line) → ExponentFrom part ls s
      → ExponentFrom part ls (symbol.Blank ∷ s)
  blank_exponent part ls (ExponentFrom.from b d r) = ExponentFrom.from (Blanks.blank b) d r

  at_exponent_start : (part : Part) (v : Variable) (S S' : Progress) (σ : Symbol)
      → step_exponent part v S σ ≡ Some S' → Rest S'.state S'.lines s
      → ExponentFrom part S.lines (σ ∷ s)
  at_exponent_start part v S S' symbol.Blank e h = blank_exponent part S.lines
      (came s (record S { state = ExponentStart part v }) S' e h)
  at_exponent_start part v S S' (symbol.Digit d) e h = exponent_first part S.lines d
      (came s (record S { state = InDigits part (Exponent v) (first_digit d) }) S' e h)
  at_exponent_start part v S S' _ e h = nothing S' e

  -- a factor and what is left after it
  product_from : (part : Part) (ls : List Line) {t r : List Symbol} {a : Monomial}
      → Factor (allows part Y) t a r → TermRest part ls r → TermsFrom part ls t
  product_from part ls f (TermRest.rest ProductRest.none ts r) = TermsFrom.from Blanks.none
      (Product.one f) ts r
  product_from part ls f (TermRest.rest (ProductRest.more b p) ts r) = TermsFrom.from Blanks.none
      (Product.more f b p) ts r

  coefficient_first : (part : Part) (ls : List Line) (d : ℕ)
      → InDigitsRest (first_digit d) part ls s → TermsFrom part ls (symbol.Digit d ∷ s)
  coefficient_first part ls d (InDigitsRest.rest g (FactorRest.rest b r)) = product_from part ls
      (Factor.number (digits_first d g).1 b) r

  variable_first : (part : Part) (ls : List Line) (v : Variable) → allows part v ≡ true
      → VariableRest part ls s → TermsFrom part ls (symbol.Variable v ∷ s)
  variable_first part ls X e (VariableRest.rest b d r) = product_from part ls (Factor.x b d) r
  variable_first part ls Y e (VariableRest.rest {t = t} {r = r} {n = n} b d q) = product_from part
      ls (subst (λ y. Factor y (symbol.Variable Y ∷ s) (monomial 1 0 n) r) (sym e) (Factor.y b d)) q

  blank_terms : (part : Part) (ls : List Line) → TermsFrom part ls s
      → TermsFrom part ls (symbol.Blank ∷ s)
  blank_terms part ls (TermsFrom.from b p ts r) = TermsFrom.from (Blanks.blank b) p ts r

  at_factor_start : (part : Part) (S S' : Progress) (σ : Symbol) → step_factor_start part S σ
      ≡ Some S' → Rest S'.state S'.lines s → TermsFrom part S.lines (σ ∷ s)
  at_factor_start part S S' symbol.Blank e h = blank_terms part S.lines
      (came s (record S { state = FactorStart part }) S' e h)
  at_factor_start part S S' (symbol.Digit d) e h = coefficient_first part S.lines d
      (came s (record S { state = InDigits part Coefficient (first_digit d) }) S' e h)
  at_factor_start part S S' (symbol.Variable v) e h =
      let T = record S { state = AfterVariable part v } in
      let c = chosen (allows part v) T S' e in
      variable_first part S.lines v c.0 (came s T S' c.1 h)
  at_factor_start part S S' _ e h = nothing S' e

  blank_polynomial : (part : Part) (ls : List Line) → PolynomialFrom part ls s
      → PolynomialFrom part ls (symbol.Blank ∷ s)
  blank_polynomial part ls (PolynomialFrom.from b p r) = PolynomialFrom.from (Blanks.blank b) p r

  signed_polynomial : (part : Part) (ls : List Line) (g : Sign) → TermsFrom part ls s
      → PolynomialFrom part ls (symbol.Sign g ∷ s)
  signed_polynomial part ls g (TermsFrom.from b p ts r) = PolynomialFrom.from Blanks.none
      (Polynomial.signed b p ts) r

  plain_polynomial : (part : Part) (ls : List Line) {t : List Symbol} → TermsFrom part ls t
      → PolynomialFrom part ls t
  plain_polynomial part ls (TermsFrom.from b p ts r) = PolynomialFrom.from b (Polynomial.plain p ts)
      r

  at_polynomial_start : (part : Part) (S S' : Progress) (σ : Symbol)
      → step_polynomial_start part S σ ≡ Some S' → Rest S'.state S'.lines s
      → PolynomialFrom part S.lines (σ ∷ s)
  at_polynomial_start part S S' symbol.Blank e h = blank_polynomial part S.lines
      (came s (record S { state = PolynomialStart part }) S' e h)
  at_polynomial_start part S S' (symbol.Sign g) e h = signed_polynomial part S.lines g
      (came s (record S { sign = g; state = FactorStart part }) S' e h)
  at_polynomial_start part S S' σ e h = plain_polynomial part S.lines
      (at_factor_start part S S' σ e h)

  blank_element : (ls : List Line) → ElementFrom ls s → ElementFrom ls (symbol.Blank ∷ s)
  blank_element ls (ElementFrom.from b p l r) = ElementFrom.from (Blanks.blank b) p l r

  whole_element : (ls : List Line) {t : List Symbol} → PolynomialFrom Whole ls t → ElementFrom ls t
  whole_element ls (PolynomialFrom.from b p (PartRest.whole l r)) = ElementFrom.from b
      (Element.whole p) l r

  quotient_element : (ls : List Line) → PolynomialFrom Numerator ls s
      → ElementFrom ls (symbol.Open ∷ s)
  quotient_element ls (PolynomialFrom.from b p
      (PartRest.numerator (SlashFrom.from c
      (OpenFrom.from d (DenominatorFrom.from f q (LineRest.rest g l r)))))) =
      ElementFrom.from Blanks.none (Element.quotient b p c d f q g) l r

  at_element_start : (S S' : Progress) (σ : Symbol) → step_element_start S σ ≡ Some S'
      → Rest S'.state S'.lines s → ElementFrom S.lines (σ ∷ s)
  at_element_start S S' symbol.Blank e h = blank_element S.lines
      (came s (record S { state = ElementStart }) S' e h)
  at_element_start S S' symbol.Open e h = quotient_element S.lines
      (came s (record S { state = PolynomialStart Numerator }) S' e h)
  at_element_start S S' σ e h = whole_element S.lines (at_polynomial_start Whole S S' σ e h)

  blank_slash : (ls : List Line) → SlashFrom ls s → SlashFrom ls (symbol.Blank ∷ s)
  blank_slash ls (SlashFrom.from b r) = SlashFrom.from (Blanks.blank b) r

  at_after_numerator : (S S' : Progress) (σ : Symbol) → step_after_numerator S σ ≡ Some S'
      → Rest S'.state S'.lines s → SlashFrom S.lines (σ ∷ s)
  at_after_numerator S S' symbol.Blank e h = blank_slash S.lines
      (came s (record S { state = AfterNumerator }) S' e h)
  at_after_numerator S S' symbol.Slash e h = SlashFrom.from Blanks.none
      (came s (record S { state = AfterSlash }) S' e h)
  at_after_numerator S S' _ e h = nothing S' e

  blank_open : (ls : List Line) → OpenFrom ls s → OpenFrom ls (symbol.Blank ∷ s)
  blank_open ls (OpenFrom.from b r) = OpenFrom.from (Blanks.blank b) r

  denominator_from : (ls : List Line) → PolynomialFrom Denominator ls s → DenominatorFrom ls s
  denominator_from ls (PolynomialFrom.from b p (PartRest.denominator r)) = DenominatorFrom.from b p
      r

  at_after_slash : (S S' : Progress) (σ : Symbol) → step_after_slash S σ ≡ Some S'
      → Rest S'.state S'.lines s → OpenFrom S.lines (σ ∷ s)
  at_after_slash S S' symbol.Blank e h = blank_open S.lines
      (came s (record S { state = AfterSlash }) S' e h)
  at_after_slash S S' symbol.Open e h = OpenFrom.from Blanks.none
      (denominator_from S.lines (came s (record S { state = PolynomialStart Denominator }) S' e h))
  at_after_slash S S' _ e h = nothing S' e

  -- a step back at any state
  back : (p : State) (S S' : Progress) (σ : Symbol) → step_at p S σ ≡ Some S'
      → Rest S'.state S'.lines s → Rest p S.lines (σ ∷ s)
  back Start S S' σ e h = at_start S S' σ e h
  back Between S S' σ e h = at_between S S' σ e h
  back NumberStart S S' σ e h = at_number_start S S' σ e h
  back (InNumber n) S S' σ e h = at_in_number n S S' σ e h
  back LineEnd S S' σ e h = at_line_end S S' σ e h
  back ElementStart S S' σ e h = at_element_start S S' σ e h
  back (PolynomialStart part) S S' σ e h = at_polynomial_start part S S' σ e h
  back (FactorStart part) S S' σ e h = at_factor_start part S S' σ e h
  back (InDigits part role n) S S' σ e h = at_in_digits part role n S S' σ e h
  back (AfterVariable part v) S S' σ e h = at_after_variable part v S S' σ e h
  back (ExponentStart part v) S S' σ e h = at_exponent_start part v S S' σ e h
  back (AfterFactor part) S S' σ e h = at_after_factor part S S' σ e h
  back AfterNumerator S S' σ e h = at_after_numerator S S' σ e h
  back AfterSlash S S' σ e h = at_after_slash S S' σ e h

-- ---- The end of the text

is_chosen : (b : Bool) (S end : Progress) → cond b (Some S) None ≡ Some end → b ≡ true
is_chosen true S end e = refl
is_chosen false S end e = nothing end e

no_lines : (S end : Progress) → if_done (Some S) ≡ Some end → Lines S.lines [] []
no_lines S end e =
    let b = both (is_between S.state) (eqb (length S.lines) 0)
    (is_chosen (is_between S.state && eqb (length S.lines) 0) S end e) in
    subst (λ ls. Lines ls [] []) (sym (nil_from_length S.lines (eqb-true _ _ b.1)))
    (Lines.none Spaces.none)

last_line : (S end : Progress) → if_done (Some S) ≡ Some end → LineRest S.lines []
last_line S end e = LineRest.rest Blanks.none grammar.LineEnd.missing (no_lines S end e)

last_term : (part : Part) (S end : Progress) → if_done (cond (is_whole part) (end_line S) None)
    ≡ Some end → TermRest part S.lines []
last_term Whole S end e = TermRest.rest ProductRest.none SignedTerms.none
    (PartRest.whole grammar.LineEnd.missing
    (no_lines (record (clear S) {
      entries = S.entries ++ record {
        numerator = all_terms S;
        denominator = None;
      } ∷ [];
      state = Between;
    }) end e))
last_term Numerator S end e = nothing end e
last_term Denominator S end e = nothing end e

-- a text may end in this state
at_end : (p : State) (S end : Progress) → if_done (step_at p S symbol.LineFeed) ≡ Some end
    → Rest p S.lines []
at_end Between S end e = LinesFrom.from (no_lines (record S { state = Between }) end e)
at_end (InNumber n) S end e = InNumberRest.rest DigitsRest.none
    (last_line (record (end_number n.value S) { state = Between }) end e)
at_end LineEnd S end e = last_line (record S { state = Between }) end e
at_end (InDigits part role n) S end e = InDigitsRest.rest DigitsRest.none
    (FactorRest.rest Blanks.none (last_term part (apply role n.value S) end e))
at_end (AfterVariable part v) S end e = VariableRest.rest Blanks.none grammar.Exponent.none
    (last_term part (apply (Exponent v) 1 S) end e)
at_end (AfterFactor part) S end e = FactorRest.rest Blanks.none (last_term part S end e)
at_end _ S end e = nothing end e

derived : (s : List Symbol) (S end : Progress) → Accepts end S s → Rest S.state S.lines s
unfolding step
derived [] S end h = at_end S.state S end h
derived (σ ∷ s) S end h = go (step S σ) refl h (λ S' g. derived s S' end g)
  where
    go : (o : Option Progress) → step S σ ≡ o → finish (walk o s) ≡ Some end
        → ((S' : Progress) → Accepts end S' s → Rest S'.state S'.lines s)
        → Rest S.state S.lines (σ ∷ s)
    go None e g next = not_accepted end s g
    go (Some S') e g next = back s S.state S S' σ e (next S' g)

-- What is read to its end is derived by the grammar.
pub text_derived : (mode : Mode) (s : List Symbol) (end : Progress) → Accepts end (initial mode) s
    → (v : Text) × IsText (lines_of mode) s v
text_derived mode s end h = elim (derived s (initial mode) end h)
    [ TextFrom.from {v = v} t ↦ (v, t) ]
