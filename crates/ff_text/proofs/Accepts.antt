-- What the grammar derives is read to its end, with its values.
use Rattle.std.proofs.Common.{◌≡◌, ℕ, ◌+◌, ◌*◌, ◌%◌, Bool, true, ltb, List, [], ◌∷◌, ◌++◌, map}
use Rattle.std.proofs.Common.{Some, None, refl, sym, ap, ◌∙◌, append_assoc, arith, eq-eqb}
use Rattle.std.specs.Option.{option_map}
use Rattle.std.proofs.lemmas.List.{append-nil}
use Rattle.std.proofs.lemmas.Bool.{lt-ltb}
use Rattle.std.proofs.lemmas.Nat.{mul-mod_first}
use Rattle.ff_text.specs.declared.symbol.Sign.{Sign}
use Rattle.ff_text.specs.declared.symbol.Variable.{Variable}
use Rattle.ff_text.specs.declared.symbol.Variable.TheVariants.{X, Y}
use Rattle.ff_text.specs.declared.symbol.Symbol.{Symbol}
use Rattle.ff_text.specs.declared.symbol.Symbol.TheVariants as symbol
use Rattle.ff_text.specs.declared.layout.Line.{Line}
use Rattle.ff_text.specs.declared.layout.Mode.{Mode}
use Rattle.ff_text.specs.declared.reader.Monomial.{Monomial}
use Rattle.ff_text.specs.declared.reader.Part.{Part}
use Rattle.ff_text.specs.declared.reader.Part.TheVariants.{Whole, Numerator, Denominator}
use Rattle.ff_text.specs.declared.reader.Role.{Role}
use Rattle.ff_text.specs.declared.reader.Role.TheVariants.{Coefficient, Exponent}
use Rattle.ff_text.specs.declared.reader.Numeral.{Numeral}
use Rattle.ff_text.specs.declared.reader.State.{State}
use Rattle.ff_text.specs.declared.reader.State.TheVariants.{Between, NumberStart, InNumber, LineEnd}
use Rattle.ff_text.specs.declared.reader.State.TheVariants.{ElementStart, PolynomialStart}
use Rattle.ff_text.specs.declared.reader.State.TheVariants.{FactorStart, InDigits}
use Rattle.ff_text.specs.declared.reader.State.TheVariants.{AfterVariable, ExponentStart}
use Rattle.ff_text.specs.declared.reader.State.TheVariants.{AfterFactor, AfterNumerator, AfterSlash}
use Rattle.ff_text.specs.Grammar as grammar
use Rattle.ff_text.specs.Grammar.{monomial, times, Blanks, Spaces, Digits, Number, Factor, Product}
use Rattle.ff_text.specs.Grammar.{SignedTerms, Polynomial, Element, Lines, IsText, Term}
use Rattle.ff_text.specs.Grammar.{Entry, Text, lines_of}
use Rattle.ff_text.specs.Reading.{Progress, Quotient, walk, then_step, finish, if_done, step, go}
use Rattle.ff_text.specs.Reading.{before, modulus, unit, reduced, signed, push_digit}
use Rattle.ff_text.specs.Reading.{first_digit, factor_of, apply, allows, all_terms, is_whole}
use Rattle.ff_text.specs.Reading.{initial, reduced_term, reduced_entry, clear, next_term}

-- from this state the text is read to its end, which is this one
abbrev pub Accepts : Progress → Progress → List Symbol → Type 0
Accepts end S s = finish (walk (Some S) s) ≡ Some end

abbrev pub at : State → Progress → Progress
at p S = record S { state = p }

pub walk-none : (s : List Symbol) → walk None s ≡ None
walk-none [] = refl
walk-none (σ ∷ s) = walk-none s

-- where the walk has stopped nothing is accepted
pub not_accepted : {A : Type 0} (end : Progress) (s : List Symbol) → finish (walk None s) ≡ Some end
    → A
not_accepted end s h = absurd (let e : finish (walk None s) ≡ None = ap finish (walk-none s) in cc)

-- blanks where the state stays
pub blanks : (end S : Progress) {s r : List Symbol} → Blanks s r → step S symbol.Blank ≡ Some S
    → Accepts end S r → Accepts end S s
blanks end S grammar.Blanks.none e h = h
blanks end S (grammar.Blanks.blank {s} b) e h = rw e (blanks end S b e h)

pub spaces : (end S : Progress) {s r : List Symbol} → Spaces s r → step S symbol.Blank ≡ Some S
    → step S symbol.LineFeed ≡ Some S → Accepts end S r → Accepts end S s
spaces end S grammar.Spaces.none e f h = h
spaces end S (grammar.Spaces.blank b) e f h = rw e (spaces end S b e f h)
spaces end S (grammar.Spaces.feed b) e f h = rw f (spaces end S b e f h)

-- ---- Numbers

abbrev numeral : ℕ → ℕ → Numeral
numeral n k = record { value = n; digits = k }

-- the digits of a number, where a state takes each of them
pub digits : (end S : Progress) (state : Numeral → State)
    → ((n k d : ℕ) → step (at (state (record { value = n; digits = k })) S) (symbol.Digit d)
    ≡ option_map (λ m. at (state m) S) (push_digit (record { value = n; digits = k }) d))
    → {m k n : ℕ} {s r : List Symbol} (j : ℕ) → j + k ≡ 9 → Digits m k s n r
    → ((i : ℕ) → Accepts end (at (state (record { value = n; digits = i })) S) r)
    → Accepts end (at (state (record { value = m; digits = j })) S) s
digits end S state steps {m} j e (grammar.Digits.last {k} {d}) h =
    let lt : ltb j 9 ≡ true = lt-ltb _ _ (omega arith) in
    rw (steps m j d, lt) (h (j + 1))
digits end S state steps {m} j e (grammar.Digits.more {k} {d} rest) h =
    let lt : ltb j 9 ≡ true = lt-ltb _ _ (omega arith) in
    rw (steps m j d, lt) (digits end S state steps (j + 1) (omega arith) rest h)

-- a number, where its first digit leads to that state
pub number : (end S F : Progress) (state : Numeral → State)
    → ((n k d : ℕ) → step (at (state (record { value = n; digits = k })) S) (symbol.Digit d)
    ≡ option_map (λ m. at (state m) S) (push_digit (record { value = n; digits = k }) d))
    → ((d : ℕ) → step F (symbol.Digit d) ≡ Some (at (state (first_digit d)) S))
    → {n : ℕ} {s r : List Symbol} → Number s n r
    → ((i : ℕ) → Accepts end (at (state (record { value = n; digits = i })) S) r)
    → Accepts end F s
number end S F state steps first (grammar.Digits.last {d = d}) h =
    let e : 10 * 0 + d ≡ d = omega arith in
    rw (first d, ← e) (h 1)
number end S F state steps first (grammar.Digits.more {d = d} rest) h =
    let e : 10 * 0 + d ≡ d = omega arith in
    rw (first d, ← e) (digits end S state steps 1 refl rest h)

-- ---- Factors

-- the state whose term is multiplied
abbrev multiplied : Monomial → Progress → Progress
multiplied a S = record S { product = reduced (modulus S.number) (times S.product a) }

-- a number is over where no digit follows
number_over : (end S : Progress) (part : Part) (role : Role) (n : Numeral) (s : List Symbol)
    → Accepts end (at (AfterFactor part) (apply role n.value S)) s
    → Accepts end (at (InDigits part role n) S) s
unfolding step
number_over end S part role n [] h = h
number_over end S part role n (symbol.Digit d ∷ s) h = not_accepted end s h
number_over end S Whole role n (symbol.Close ∷ s) h = h
number_over end S Numerator role n (symbol.Close ∷ s) h = h
number_over end S Denominator role n (symbol.Close ∷ s) h = h
number_over end S part role n (_ ∷ s) h = h

-- an exponent is missing where no power sign follows
exponent_missing : (end S : Progress) (part : Part) (v : Variable) (s : List Symbol)
    → Accepts end (at (AfterFactor part) (apply (Exponent v) 1 S)) s
    → Accepts end (at (AfterVariable part v) S) s
unfolding step
exponent_missing end S part v [] h = h
exponent_missing end S part v (symbol.Power ∷ s) h = not_accepted end s h
exponent_missing end S part v (symbol.Blank ∷ s) h = exponent_missing end S part v s h
exponent_missing end S Whole v (symbol.Close ∷ s) h = h
exponent_missing end S Numerator v (symbol.Close ∷ s) h = h
exponent_missing end S Denominator v (symbol.Close ∷ s) h = h
exponent_missing end S part v (_ ∷ s) h = h

exponent : (end S : Progress) (part : Part) (v : Variable) {n : ℕ} {s r : List Symbol}
    → grammar.Exponent s n r
    → Accepts end (at (AfterFactor part) (apply (Exponent v) n S)) r
    → Accepts end (at (AfterVariable part v) S) s
unfolding step
exponent end S part v (grammar.Exponent.none {s}) h = exponent_missing end S part v s h
exponent end S part v (grammar.Exponent.power {t = t} {u = u} {n = n} b d c) h =
    blanks end (at (ExponentStart part v) S) b refl
    (number end S (at (ExponentStart part v) S) (InDigits part (Exponent v)) (λ n k d. refl)
    (λ d. refl) d
    (λ i. number_over end S part (Exponent v) (numeral n i) u
    (blanks end (at (AfterFactor part) (apply (Exponent v) n S)) c refl h)))

allows-X : (part : Part) → allows part X ≡ true
allows-X Whole = refl
allows-X _ = refl

factor : (end S : Progress) (part : Part) {y : Bool} {a : Monomial} {s r : List Symbol}
    → allows part Y ≡ y → Factor y s a r
    → Accepts end (at (AfterFactor part) (multiplied a S)) r
    → Accepts end (at (FactorStart part) S) s
unfolding step
factor end S part e (grammar.Factor.number {t = t} {n = n} d b) h =
    number end S (at (FactorStart part) S) (InDigits part Coefficient) (λ n k d. refl) (λ d. refl) d
    (λ i. number_over end S part Coefficient (numeral n i) t
    (blanks end (at (AfterFactor part) (apply Coefficient n S)) b refl h))
factor end S part e (grammar.Factor.x b d) h =
    rw (allows-X part) (blanks end (at (AfterVariable part X) S) b refl (exponent end S part X d h))
factor end S part e (grammar.Factor.y b d) h =
    rw e (blanks end (at (AfterVariable part Y) S) b refl (exponent end S part Y d h))

-- ---- Products

monomial_path : {a b : Monomial} → a.coefficient ≡ b.coefficient → a.x ≡ b.x → a.y ≡ b.y → a ≡ b
monomial_path e f g = λ i. record { coefficient = e i; x = f i; y = g i }

multiplied-times : (m : ℕ) (p a b : Monomial) → reduced m (times (reduced m (times p a)) b)
    ≡ reduced m (times p (times a b))
multiplied-times m p a b = monomial_path
    (mul-mod_first (p.coefficient * a.coefficient) b.coefficient m ∙ ap (λ n. n % m) (omega arith))
    (omega arith) (omega arith)

multiplied-unit : (m : ℕ) (a : Monomial) → reduced m (times (unit m) a) ≡ reduced m a
multiplied-unit m a = monomial_path
    (mul-mod_first 1 a.coefficient m ∙ ap (λ n. n % m) (omega arith))
    (omega arith) (omega arith)

product : (end S : Progress) (part : Part) {y : Bool} {s r : List Symbol} {a : Monomial}
    → allows part Y ≡ y → Product y s a r
    → Accepts end (at (AfterFactor part) (multiplied a S)) r
    → Accepts end (at (FactorStart part) S) s
unfolding step
product end S part e (grammar.Product.one f) h = factor end S part e f h
product end S part e (grammar.Product.more {r = r} {a = a} {b = b} f c p) h =
    factor end S part e f (blanks end (at (FactorStart part) (multiplied a S)) c refl (product end
    (multiplied a S) part e p
    (rw (multiplied-times (modulus S.number) S.product a b) h)))

-- ---- Polynomials

-- from any state that has these terms
abbrev WithTerms : Progress → Progress → Part → List Monomial → List Symbol → Type 0
WithTerms end S part ts r = (g : Sign) (a : Monomial) (done : List Monomial)
    → done ++ signed (modulus S.number) g a ∷ [] ≡ ts
    → Accepts end (at (AfterFactor part) (record S { sign = g; product = a; terms = done })) r

signed_terms : (end S : Progress) (part : Part) {y : Bool} {s r : List Symbol} {ts : List Term}
    → allows part Y ≡ y → SignedTerms y s ts r
    → WithTerms end S part (all_terms S ++ map (reduced_term (modulus S.number)) ts) r
    → Accepts end (at (AfterFactor part) S) s
unfolding step
signed_terms end S part e grammar.SignedTerms.none h = h S.sign S.product S.terms
    (sym (append-nil (all_terms S)))
signed_terms end S part e (grammar.SignedTerms.more {g = g} {a = a} {ts = ts} b p rest) h =
    let m = modulus S.number in
    let S1 = record (next_term S) { sign = g } in
    let one : all_terms (multiplied a S1) ++ map (reduced_term m) ts
    ≡ all_terms S ++ signed m g (reduced m a) ∷ map (reduced_term m) ts
    = append_assoc (all_terms S) (signed m g (reduced m (times (unit m) a)) ∷ [])
    (map (reduced_term m) ts)
    ∙ ap (λ c. all_terms S ++ signed m g c ∷ map (reduced_term m) ts) (multiplied-unit m a) in
    blanks end (at (FactorStart part) S1) b refl (product end S1 part e p
    (signed_terms end (multiplied a S1) part e rest (λ g' a' done' f. h g' a' done' (f ∙ one))))

-- where there is no sign, the first factor begins
no_sign : (end S : Progress) (part : Part) (s : List Symbol)
    → Accepts end (at (FactorStart part) S) s → Accepts end (at (PolynomialStart part) S) s
unfolding step
no_sign end S part [] h = h
no_sign end S part (symbol.Blank ∷ s) h = no_sign end S part s h
no_sign end S part (symbol.Sign g ∷ s) h = not_accepted end s h
no_sign end S part (_ ∷ s) h = h

polynomial : (end S : Progress) (part : Part) {y : Bool} {s r : List Symbol} {ts : List Term}
    → allows part Y ≡ y → Polynomial y s ts r
    → WithTerms end S part (map (reduced_term (modulus S.number)) ts) r
    → Accepts end (at (PolynomialStart part) (clear S)) s
unfolding step
polynomial end S part {s = s} e (grammar.Polynomial.plain {a = a} {ts = ts} p rest) h =
    let m = modulus S.number in
    no_sign end (clear S) part s (product end (clear S) part e p
    (signed_terms end (multiplied a (clear S)) part e rest
    (λ g' a' done' f. h g' a' done'
    (f ∙ ap (λ c. c ∷ map (reduced_term m) ts) (multiplied-unit m a)))))
polynomial end S part e (grammar.Polynomial.signed {g = g} {a = a} {ts = ts} b p rest) h =
    let m = modulus S.number in
    let S1 = record (clear S) { sign = g } in
    blanks end (at (FactorStart part) S1) b refl (product end S1 part e p
    (signed_terms end (multiplied a S1) part e rest
    (λ g' a' done' f. h g' a' done'
    (f ∙ ap (λ c. signed m g c ∷ map (reduced_term m) ts) (multiplied-unit m a)))))

-- ---- Lines

-- the line is over, with or without a line feed
line_over : (end F S : Progress) {s r : List Symbol} → step F symbol.LineFeed ≡ Some S
    → step S symbol.LineFeed ≡ Some S → grammar.LineEnd s r
    → Accepts end S r → Accepts end F s
line_over end F S e f grammar.LineEnd.feed h = rw e h
line_over end F S e f grammar.LineEnd.missing h = rw e (rw f at h)

-- a line in the state before it
abbrev in_line : State → List Line → ℕ → List Quotient → Progress
in_line p ls n es = at p (before ls n es)

-- from the state after a line of this value
abbrev After : Progress → List Line → ℕ → List Quotient → Quotient → List Symbol → Type 0
After end ls n es q r = Accepts end (before ls n (es ++ q ∷ [])) r

line_end : (end S : Progress) {s t r : List Symbol} → Blanks s t → grammar.LineEnd t r
    → Accepts end (at Between S) r → Accepts end (at LineEnd S) s
unfolding step
line_end end S b l h = blanks end (at LineEnd S) b refl
    (line_over end (at LineEnd S) (at Between S) refl refl l h)

equation : (end : Progress) (ls : List Line) (n : ℕ) (es : List Quotient) {s t r : List Symbol}
    {ts : List Term} → Polynomial true s ts t → grammar.LineEnd t r
    → After end ls n es (record {
      numerator = map (reduced_term (modulus n)) ts;
      denominator = None;
    }) r
    → Accepts end (in_line (PolynomialStart Whole) ls n es) s
unfolding step
equation end ls n es {ts = ts} p l h =
    polynomial end (before ls n es) Whole refl p (λ g a done f.
    line_over end (at (AfterFactor Whole)
    (record (before ls n es) { sign = g; product = a; terms = done }))
    (before ls n (es ++ record {
      numerator = map (reduced_term (modulus n)) ts;
      denominator = None;
    } ∷ []))
    (ap (λ xs. Some (before ls n (es ++ record { numerator = xs; denominator = None } ∷ []))) f)
    refl l h)

-- where there is no parenthesis, a polynomial begins
no_quotient : (end S : Progress) (s : List Symbol) → Accepts end (at (PolynomialStart Whole) S) s
    → Accepts end (at ElementStart S) s
unfolding step
no_quotient end S [] h = h
no_quotient end S (symbol.Blank ∷ s) h = no_quotient end S s h
no_quotient end S (symbol.Open ∷ s) h = not_accepted end s h
no_quotient end S (_ ∷ s) h = h

element : (end : Progress) (ls : List Line) (n : ℕ) (es : List Quotient) {s t r : List Symbol}
    {e : Entry} → Element s e t → grammar.LineEnd t r
    → After end ls n es (reduced_entry (modulus n) e) r
    → Accepts end (in_line ElementStart ls n es) s
unfolding step
element end ls n es {s = s} (grammar.Element.whole p) l h = no_quotient end (before ls n es) s
    (equation end ls n es p l h)
element end ls n es (grammar.Element.quotient {num = num} {den = den} b p c d f q g) l h =
    let S = before ls n es in
    let nums = map (reduced_term (modulus n)) num in
    let dens = map (reduced_term (modulus n)) den in
    let T = record S { numerator = nums } in
    let quotient : Quotient = record { numerator = nums; denominator = Some dens } in
    blanks end (at (PolynomialStart Numerator) S) b refl
    (polynomial end S Numerator refl p (λ g1 a1 done1 e1.
    rw e1 (blanks end (at AfterNumerator T) c refl
    (blanks end (at AfterSlash T) d refl
    (blanks end (at (PolynomialStart Denominator) T) f refl
    (polynomial end T Denominator refl q (λ g2 a2 done2 e2.
    rw e2 (line_end end (record S { entries = es ++ quotient ∷ [] }) g l h))))))))

letter_read : (end : Progress) (k : Line) (ls : List Line) (n : ℕ) (es : List Quotient)
    (s : List Symbol) → Accepts end
    (at (Rattle.ff_text.specs.Reading.start k.content) (before ls n es)) s
    → Accepts end (before (k ∷ ls) n es) (symbol.Letter k.letter ∷ s)
unfolding step
letter_read end k ls n es s h = rw (eq-eqb k.letter k.letter refl) h

lines : (ls : List Line) (n : ℕ) (done : List Quotient) {s : List Symbol} {es : List Entry}
    → Lines ls s es
    → Accepts (before [] n (done ++ map (reduced_entry (modulus n)) es)) (before ls n done) s
unfolding step
lines ls n done (grammar.Lines.none a) = rw append-nil
    (spaces (before [] n done) (before [] n done) a refl refl refl)
lines (k ∷ ls) n done (grammar.Lines.equation {t = t} {ts = ts} {es = es} a b p l rest) =
    let e : Entry = record { numerator = ts; denominator = None } in
    let end = before [] n (done ++ map (reduced_entry (modulus n)) (e ∷ es)) in
    spaces end (before (k ∷ ls) n done) a refl refl (letter_read end k ls n done t
    (blanks end (in_line (PolynomialStart Whole) ls n done) b refl (equation end ls n done p l
    (rw (← append_assoc done (reduced_entry (modulus n) e ∷ [])
    (map (reduced_entry (modulus n)) es))
    (lines ls n (done ++ reduced_entry (modulus n) e ∷ []) rest)))))
lines (k ∷ ls) n done (grammar.Lines.element {t = t} {e = e} {es = es} a b p l rest) =
    let end = before [] n (done ++ map (reduced_entry (modulus n)) (e ∷ es)) in
    spaces end (before (k ∷ ls) n done) a refl refl (letter_read end k ls n done t
    (blanks end (in_line ElementStart ls n done) b refl (element end ls n done p l
    (rw (← append_assoc done (reduced_entry (modulus n) e ∷ [])
    (map (reduced_entry (modulus n)) es))
    (lines ls n (done ++ reduced_entry (modulus n) e ∷ []) rest)))))

-- a number is over where no digit follows
line_number_over : (end S : Progress) (n : Numeral) (s : List Symbol)
    → Accepts end (at LineEnd (record S { number = n.value; product = unit (modulus n.value) })) s
    → Accepts end (at (InNumber n) S) s
unfolding step
line_number_over end S n [] h = h
line_number_over end S n (symbol.Digit d ∷ s) h = not_accepted end s h
line_number_over end S n (_ ∷ s) h = h

-- What the grammar derives is read to its end, with its values.
pub text : (mode : Mode) {s : List Symbol} {v : Text} → IsText (lines_of mode) s v
    → Accepts (before [] v.number (map (reduced_entry (modulus v.number)) v.entries)) (initial mode)
    s
unfolding step
text mode (grammar.IsText.text {t = t} {v = w} {n = n} {es = es} a b d c l rest) =
    let end = before [] n (map (reduced_entry (modulus n)) es) in
    spaces end (initial mode) a refl refl
    (blanks end (in_line NumberStart (lines_of mode) 0 []) b refl
    (number end (before (lines_of mode) 0 []) (in_line NumberStart (lines_of mode) 0 []) InNumber
    (λ n k d. refl) (λ d. refl) d
    (λ i. line_number_over end (before (lines_of mode) 0 []) (numeral n i) w
    (line_end end (before (lines_of mode) n []) c l (lines (lines_of mode) n [] rest)))))
