-- The job of a text: what is known of it, and what is said of it as an answer to bytes.
use Rattle.std.proofs.Common.{◌≡◌, ℕ, zero, suc, ◌%◌, ◌<◌, ◌≤◌, Bool, true, false, eqb, ◌&&◌}
use Rattle.std.proofs.Common.{cond, List, [], ◌∷◌, length, get_or, Option, Some, None, Ok, refl}
use Rattle.std.proofs.Common.{sym, ap, subst, ◌∙◌, arith, lit<, lit≤, ⊎_elim, inr}
use Rattle.std.specs.List.{sum_by, AllZip, All}
use Rattle.std.proofs.lemmas.Bool.{cases_lt, ne_eqb}
use Rattle.std.proofs.lemmas.List.{nil_from_length}
use Rattle.std.proofs.lemmas.List.Sums.{sum_by-cons}
use Rattle.std.proofs.Math.Nat.{zero-mod}
use Rattle.ff_theory.specs.PrimeTable.{prime_elements}
use Rattle.ff_text.specs.declared.fault.TextFault.TheVariants as fault
use Rattle.ff_text.specs.declared.layout.Mode.{Mode}
use Rattle.ff_text.specs.declared.layout.Mode.TheVariants as mode
use Rattle.ff_text.specs.declared.job.TheConstants.{MAX_BYTES}
use Rattle.ff_text.specs.declared.job.RawElem.{RawElem}
use Rattle.ff_text.specs.declared.job.Job.{Job}
use Rattle.ff_text.specs.declared.reader.Monomial.{Monomial}
use Rattle.ff_text.specs.declared.symbol.Sign.{Sign}
use Rattle.ff_text.specs.declared.symbol.Sign.TheVariants.{Plus, Minus}
use Rattle.ff_text.specs.declared.symbol.Symbol.{Symbol}
use Rattle.ff_text.specs.Grammar.{monomial, Factor, Product, SignedTerms, Polynomial, Element}
use Rattle.ff_text.specs.Grammar.{Lines, IsText, Term, Entry, Text, Derives, lines_of}
use Rattle.ff_text.specs.Reading.{reduced_term}
use Rattle.ff_text.specs.Sums.{share, total}
use Rattle.ff_text.specs.Values.{terms_of, terms_or_one, denominator_of, IsZero}
use Rattle.ff_text.specs.Values.{IsOverZero, IsEntry, IsElement, HasEquations, HoldsEntries}
use Rattle.ff_text.specs.Values.{Answers}
use Rattle.ff_top.specs.declared.status.Status.{Status}
use Rattle.ff_top.specs.Input.{HoldsForText, IsInputAnswer, IsJudged}
use Rattle.ff_top.specs.Check.{IsFraction, IsSound}
use Rattle.ff_top.specs.Commands.{IsSoundFor}

-- ---- No y stands in a denominator

factor_flat : {s r : List Symbol} {a : Monomial} → Factor false s a r → a.y ≡ 0
factor_flat (Factor.number n b) = refl
factor_flat (Factor.x b e) = refl

product_flat : {s r : List Symbol} {a : Monomial} → Product false s a r → a.y ≡ 0
product_flat (Product.one f) = factor_flat f
product_flat (Product.more f b p) = omega (arith, factor_flat f, product_flat p)

abbrev Flat : List Term → Type 0
Flat [] = Unit {0}
Flat (t ∷ ts) = (t.product.y ≡ 0) × Flat ts

signed_flat : {s r : List Symbol} {ts : List Term} → SignedTerms false s ts r → Flat ts
signed_flat SignedTerms.none = tt
signed_flat (SignedTerms.more b p ts) = (product_flat p, signed_flat ts)

polynomial_flat : {s r : List Symbol} {ts : List Term} → Polynomial false s ts r → Flat ts
polynomial_flat (Polynomial.plain p ts) = (product_flat p, signed_flat ts)
polynomial_flat (Polynomial.signed b p ts) = (product_flat p, signed_flat ts)

abbrev FlatOrNone : Option (List Term) → Type 0
FlatOrNone None = Unit {0}
FlatOrNone (Some ts) = Flat ts

element_flat : {s r : List Symbol} {e : Entry} → Element s e r → FlatOrNone e.denominator
element_flat (Element.whole p) = tt
element_flat (Element.quotient b n c d f den z) = polynomial_flat den

-- ---- So its sum has no y

share_apart : (i j : ℕ) (m : Monomial) → m.y ≡ 0 → 0 < j → share i j m ≡ 0
share_apart i j m e h = ap (λ b. cond (eqb m.x i && b) m.coefficient 0)
    (ne_eqb m.y j (λ k. absurd (omega (arith, e, h, k)))) ∙ go (eqb m.x i)
  where
    go : (b : Bool) → cond (b && false) m.coefficient 0 ≡ 0
    go true = refl
    go false = refl

term_y : (p : ℕ) (t : Term) → (reduced_term p t).y ≡ t.product.y
term_y p t = go t.sign t
  where
    go : (g : Sign) (t : Term) → (reduced_term p (record t { sign = g })).y ≡ t.product.y
    go Plus t = refl
    go Minus t = refl

flat_sum : (p i j : ℕ) (ts : List Term) → Flat ts → 0 < j → sum_by (share i j) (terms_of p ts) ≡ 0
flat_sum p i j [] h pos = refl
flat_sum p i j (t ∷ ts) h pos = omega (
  arith,
  sum_by-cons (share i j) (reduced_term p t) (terms_of p ts),
  share_apart i j
      (reduced_term p t) (term_y p t ∙ h.0) pos,
  flat_sum p i j ts h.1 pos,
)

flat_total : (p i j : ℕ) (ts : List Term) → Flat ts → 0 < j → total p (terms_of p ts) i j ≡ 0
flat_total p i j ts h pos = ap (λ n. n % p) (flat_sum p i j ts h pos) ∙ zero-mod p

denominator_total : (p i j : ℕ) (e : Entry) → FlatOrNone e.denominator → 0 < j
    → total p (denominator_of p e) i j ≡ 0
denominator_total p i j e h pos = go e.denominator h
  where
    go : (o : Option (List Term)) → FlatOrNone o → total p (terms_or_one p o) i j ≡ 0
    go None h = ap (λ n. n % p) (let one : share i j (monomial 1 0 0) ≡ 0 = share_apart i j
        (monomial 1 0 0) refl pos in omega
        (arith, sum_by-cons (share i j) (monomial 1 0 0) [], one)) ∙ zero-mod p
    go (Some ts) h = flat_total p i j ts h pos

-- ---- What it means that there is no fault

fraction : (p : ℕ) (e : Entry) (r : RawElem) → FlatOrNone e.denominator → IsElement p e r
    → ¬ IsOverZero p e → IsFraction (prime_elements p) r
fraction p e r flat is right = record {
  num = is.numerator.plane;
  den = is.denominator.poly;
  nonzero = ⊎_elim
      (λ (lt : 0 < length r.den). lt)
      (λ (le : length r.den ≤ 0). absurd
      (right (zero_sum (nil_from_length r.den (omega (arith, le)))))) (cases_lt 0 (length r.den));
}
  where
    zero_sum : r.den ≡ [] → IsZero p (denominator_of p e)
    zero_sum empty i zero = sym (is.denominator.same i) ∙ ap (λ (c : List ℕ). get_or c i 0) empty
    zero_sum empty i (suc j) = denominator_total p i (suc j) e flat (omega arith)

-- ---- The six entries

data Six : List Entry → Type 0 where
  six : {f g x y u v : Entry} → FlatOrNone x.denominator → FlatOrNone y.denominator
      → FlatOrNone u.denominator → FlatOrNone v.denominator → Six (f ∷ g ∷ x ∷ y ∷ u ∷ v ∷ [])

six_entries : {s : List Symbol} {v : Text} → IsText (lines_of mode.Check) s v → Six v.entries
six_entries (IsText.text a b n c l
    (Lines.equation a0 b0 p0 l0 (Lines.equation a1 b1 p1 l1 (Lines.element a2 b2 e2 l2
    (Lines.element a3 b3 e3 l3 (Lines.element a4 b4 e4 l4 (Lines.element a5 b5 e5 l5 (Lines.none
    z)))))))) =
    six (element_flat e2) (element_flat e3) (element_flat e4) (element_flat e5)

module _ (p : ℕ) (x y u v : Entry) (fx : FlatOrNone x.denominator) (fy : FlatOrNone y.denominator)
    (fu : FlatOrNone u.denominator) (fv : FlatOrNone v.denominator)
    (rx : ¬ IsOverZero p x) (ry : ¬ IsOverZero p y) (ru : ¬ IsOverZero p u) (rv : ¬ IsOverZero p v)
  where
    four_fractions : (rs : List RawElem) → AllZip (IsElement p) (x ∷ y ∷ u ∷ v ∷ []) rs
        → (length rs ≡ 4) × All (IsFraction (prime_elements p)) rs
    four_fractions [] h = absurd h
    four_fractions (a ∷ []) h = absurd h.1
    four_fractions (a ∷ b ∷ []) h = absurd h.1.1
    four_fractions (a ∷ b ∷ c ∷ []) h = absurd h.1.1.1
    four_fractions (a ∷ b ∷ c ∷ d ∷ []) h = (refl, each)
      where
        each : All (IsFraction (prime_elements p)) (a ∷ b ∷ c ∷ d ∷ [])
        each zero e l = fraction p x a fx h.0 rx
        each (suc zero) e l = fraction p y b fy h.1.0 ry
        each (suc (suc zero)) e l = fraction p u c fu h.1.1.0 ru
        each (suc (suc (suc zero))) e l = fraction p v d fv h.1.1.1.0 rv
        each (suc (suc (suc (suc k)))) e l = absurd (omega (arith, l))
    four_fractions (a ∷ b ∷ c ∷ d ∷ e ∷ rs) h = absurd h.1.1.1.1

fractions_of_six : (p : ℕ) (es : List Entry) (job : Job) → Six es → HoldsEntries p es job
    → ((w : ℕ) → 3 ≤ w → ¬ IsEntry (IsOverZero p) es w)
    → (length job.elems.items ≡ 4) × All (IsFraction (prime_elements p)) job.elems.items
fractions_of_six p es job
    (six {f = f} {g = g} {x = x} {y = y} {u = u} {v = v} fx fy fu fv) holds not_zero =
    four_fractions p x y u v fx fy fu fv
    (λ h. not_zero 3 (lit≤ tt) (2, refl, lit< tt, λ d. h))
    (λ h. not_zero 4 (lit≤ tt) (3, refl, lit< tt, λ d. h))
    (λ h. not_zero 5 (lit≤ tt) (4, refl, lit< tt, λ d. h))
    (λ h. not_zero 6 (lit≤ tt) (5, refl, lit< tt, λ d. h)) job.elems.items holds.1

-- The job of a text of `check` without a fault has two equations and four fractions.
job_sound : (bytes : List ℕ) (v : Text) (job : Job) → Derives mode.Check bytes v
    → Answers v (Ok job) → HasEquations job → IsSound job
job_sound bytes v job derives answers equations =
    let h = fractions_of_six v.number v.entries job (six_entries derives) answers.0.entries
    (λ w le h. answers.1 (fault.ZeroDenominator w) (le, h)) in
    record {
      equations = equations;
      four = h.0;
      fractions = subst (λ q. All (IsFraction (prime_elements q)) job.elems.items)
          (sym answers.0.prime) h.1;
    }

-- what is known of the job of a text of any mode
pub sound_for : (mode : Mode) (bytes : List ℕ) (v : Text) (job : Job) → Derives mode bytes v
    → Answers v (Ok job) → HasEquations job → IsSoundFor mode job
sound_for mode.Check bytes v job derives answers equations =
    job_sound bytes v job derives answers equations
sound_for mode.Order bytes v job derives answers equations = equations
sound_for mode.Iso bytes v job derives answers equations = equations
sound_for mode.Aut bytes v job derives answers equations = equations

-- what is said of the job of the bytes is an answer to them
pub job_answer : (mode : Mode) (judges : Job → ℕ → ℕ → Status → List ℕ → Type 0)
    (bytes : List ℕ) (job : Job) (before after : ℕ) (status : Status) (text : List ℕ)
    → length bytes ≤ MAX_BYTES → ((v : Text) × Derives mode bytes v)
    → ((v : Text) → Derives mode bytes v → Answers v (Ok job))
    → judges job before after status text
    → IsInputAnswer mode judges bytes before after status text
job_answer mode judges bytes job before after status text within d h j =
    inr (inr (record { within = within; judged = judged }))
  where
    judged : HoldsForText mode bytes (λ v. IsJudged judges v before after status text)
    judged = record {
      text = d.0;
      derives = d.1;
      holds = λ v dv. record {
        faultless = (h v dv).1;
        job = job;
        is_job = (h v dv).0;
        judged = j;
      };
    }
