-- The answer to a text is that of its values.
use Rattle.std.proofs.Common.{◌≡◌, ℕ, zero, suc, ◌-◌, ◌<◌, ◌≤◌, min, Bool, true, false, not, ◌||◌}
use Rattle.std.proofs.Common.{IsTrue, List, [], ◌∷◌, length, map, get_or, drop, Option}
use Rattle.std.proofs.Common.{Some, None, Err, refl, sym, ap, subst, ◌∙◌, arith, lit<, lit≤, ◌⊎◌}
use Rattle.std.proofs.Common.{inl, inr}
use Rattle.std.specs.Option.{option_map, unwrap_or}
use Rattle.std.specs.List.{All, AllZip, HoldsAt}
use Rattle.std.proofs.Math.Nat.{mod-lt}
use Rattle.std.proofs.lemmas.List.{length-map}
use Rattle.ff_theory.specs.PrimeTable.{primes, is_in}
use Rattle.ff_theory.proofs.PrimeField.{above_one}
use Rattle.ff_prime.specs.Number.{number_of}
use Rattle.ff_poly.specs.declared.limits.TheConstants.{MAX_X_DEGREE, MAX_Y_DEGREE, MAX_MONIC_DEGREE}
use Rattle.ff_text.specs.declared.limits.TheConstants.{MAX_ELEM_X_DEGREE, MAX_ELEM_Y_DEGREE}
use Rattle.ff_text.specs.declared.fault.TextFault.{TextFault}
use Rattle.ff_text.specs.declared.fault.TextFault.TheVariants as fault
use Rattle.ff_text.specs.declared.layout.Line.{Line}
use Rattle.ff_text.specs.declared.layout.Mode.{Mode}
use Rattle.ff_text.specs.declared.layout.Mode.TheVariants as mode
use Rattle.ff_text.specs.declared.job.Job.{Job}
use Rattle.ff_text.specs.declared.job.RawElem.{RawElem}
use Rattle.ff_text.specs.declared.reader.Monomial.{Monomial}
use Rattle.ff_text.specs.declared.reader.Fraction.{Fraction}
use Rattle.ff_text.specs.declared.sums.Ratio.{Ratio}
use Rattle.ff_text.specs.declared.symbol.Symbol.{Symbol}
use Rattle.ff_text.specs.Grammar.{monomial, lines_of, Lines, IsText, Term, Entry, Text, Derives}
use Rattle.ff_text.specs.Reading.{Progress, Quotient, quotient, reduced_term, reduced_entry}
use Rattle.ff_text.specs.Reading.{modulus, finish, reads}
use Rattle.ff_text.specs.Sums.{IsCollected}
use Rattle.ff_text.specs.Ratios as ratios
use Rattle.ff_text.specs.Ratios.{IsRatio, AreRatios}
use Rattle.ff_text.specs.Limits.{has_y, exceeds, monic_exceeds, lacks_y, is_over_zero}
use Rattle.ff_text.specs.Limits.{equation_exceeds, element_exceeds, elements, first_fault}
use Rattle.ff_text.specs.Parts.{IsReduced, IsEquationOf, IsElementOf}
use Rattle.ff_text.specs.Values.{terms_or_one, numerator_of, denominator_of, HasY, IsAbove}
use Rattle.ff_text.specs.Values.{IsMonicAbove, LacksY, IsOverZero, EquationExceeds, ElementExceeds}
use Rattle.ff_text.specs.Values.{IsEntry, Says, Precedes, IsFirst, IsElement, HoldsEntries, IsJob}
use Rattle.ff_text.specs.Values.{Answers}
use Rattle.ff_text.proofs.First.{IsAt, Finds, IsFound, first_is_found}
use Rattle.ff_text.proofs.Tests.{Tells, tells_y, tells_above, tells_zero, tells_monic}
use Rattle.ff_text.proofs.Faults.{end_of, derives_reads, reads_derives}

-- the sums of an entry
pub record IsEntryRatio (p : ℕ) (e : Entry) (r : Ratio) : Type 0 where
  pub numerator : IsCollected p (numerator_of p e) r.numerator.items
  pub denominator : IsCollected p (denominator_of p e) r.denominator.items

entry_ratio : (p : ℕ) (e : Entry) (f : Fraction) (r : Ratio) → quotient f ≡ reduced_entry p e
    → IsRatio p f r → IsEntryRatio p e r
entry_ratio p e f r q h = record {
  numerator = subst (λ ms. IsCollected p ms r.numerator.items)
      (ap (λ (t : Quotient). t.numerator) q) h.numerator;
  denominator = subst (λ ms. IsCollected p ms r.denominator.items)
      (ap (λ (t : Quotient). unwrap_or t.denominator (monomial 1 0 0 ∷ [])) q ∙ same e.denominator)
      h.denominator;
}
  where
    same : (o : Option (List Term))
        → unwrap_or (option_map (λ (ts : List Term). map (reduced_term p) ts) o)
        (monomial 1 0 0 ∷ []) ≡ terms_or_one p o
    same None = refl
    same (Some ts) = refl

pub entry_ratios : (p : ℕ) (es : List Entry) (fs : List Fraction) (rs : List Ratio)
    → map quotient fs ≡ map (reduced_entry p) es → AreRatios p fs rs → AllZip (IsEntryRatio p) es rs
entry_ratios p [] [] [] q h = tt
entry_ratios p [] [] (r ∷ rs) q h = absurd h
entry_ratios p [] (f ∷ fs) rs q h = absurd cc
entry_ratios p (e ∷ es) [] rs q h = absurd cc
entry_ratios p (e ∷ es) (f ∷ fs) [] q h = absurd h
entry_ratios p (e ∷ es) (f ∷ fs) (r ∷ rs) q h =
    let a : quotient f ≡ reduced_entry p e = cc in
    let b : map quotient fs ≡ map (reduced_entry p) es = cc in
    (entry_ratio p e f r a h.0, entry_ratios p es fs rs b h.1)

-- ---- Tests

tells_not : (b : Bool) (P : Type 0) → Tells b P → Tells (not b) (P → ⊥)
tells_not true P t = record { says = λ e. absurd cc; holds = λ h. absurd (h (t.says refl)) }
tells_not false P t = record { says = λ e p. absurd (let f = t.holds p in cc); holds = λ h. refl }

tells_or : (a b : Bool) (P Q : Type 0) → Tells a P → Tells b Q → Tells (a || b) (P ⊎ Q)
tells_or true b P Q s t = record { says = λ e. inl (s.says refl); holds = λ h. refl }
tells_or false b P Q s t = record {
  says = λ e. inr (t.says e);
  holds = λ h. elim h
      [ inl p ↦ absurd (let f = s.holds p in cc) | inr q ↦ t.holds q ];
}

module _ (p : ℕ) (e : Entry) (r : Ratio) (h : IsEntryRatio p e r) where
  tells_lacks : Tells (lacks_y r) (LacksY p e)
  tells_lacks = tells_not (has_y r.numerator.items) (HasY p (numerator_of p e))
      (tells_y p (numerator_of p e) r.numerator.items h.numerator)

  tells_over_zero : Tells (is_over_zero r) (IsOverZero p e)
  tells_over_zero = tells_zero p (denominator_of p e) r.denominator.items h.denominator

  tells_equation : Tells (equation_exceeds r) (EquationExceeds p e)
  tells_equation = tells_or (exceeds MAX_X_DEGREE MAX_Y_DEGREE r.numerator.items)
      (monic_exceeds MAX_MONIC_DEGREE r.numerator.items)
      (IsAbove MAX_X_DEGREE MAX_Y_DEGREE p (numerator_of p e))
      (IsMonicAbove MAX_MONIC_DEGREE p (numerator_of p e))
      (tells_above p (numerator_of p e) r.numerator.items h.numerator MAX_X_DEGREE MAX_Y_DEGREE)
      (tells_monic p (numerator_of p e) r.numerator.items h.numerator MAX_MONIC_DEGREE)

  tells_element : Tells (element_exceeds r) (ElementExceeds p e)
  tells_element = tells_or (exceeds MAX_ELEM_X_DEGREE MAX_ELEM_Y_DEGREE r.numerator.items)
      (exceeds MAX_ELEM_X_DEGREE MAX_ELEM_Y_DEGREE r.denominator.items)
      (IsAbove MAX_ELEM_X_DEGREE MAX_ELEM_Y_DEGREE p (numerator_of p e))
      (IsAbove MAX_ELEM_X_DEGREE MAX_ELEM_Y_DEGREE p (denominator_of p e))
      (tells_above p (numerator_of p e) r.numerator.items h.numerator MAX_ELEM_X_DEGREE
      MAX_ELEM_Y_DEGREE) (tells_above p (denominator_of p e) r.denominator.items h.denominator
      MAX_ELEM_X_DEGREE MAX_ELEM_Y_DEGREE)

-- ---- Entries

all_zip_at : {A B : Type 0} (R : A → B → Type 0) (xs : List A) (ys : List B) (k : ℕ) (d : A) (e : B)
    → AllZip R xs ys → k < length xs → R (get_or xs k d) (get_or ys k e)
all_zip_at R [] ys k d e h lt = absurd (omega arith)
all_zip_at R (x ∷ xs) [] k d e h lt = absurd h
all_zip_at R (x ∷ xs) (y ∷ ys) zero d e h lt = h.0
all_zip_at R (x ∷ xs) (y ∷ ys) (suc k) d e h lt = all_zip_at R xs ys k d e h.1 (omega arith)

pub all_zip_length : {A B : Type 0} (R : A → B → Type 0) (xs : List A) (ys : List B)
    → AllZip R xs ys → length xs ≡ length ys
all_zip_length R [] [] h = refl
all_zip_length R [] (y ∷ ys) h = absurd h
all_zip_length R (x ∷ xs) [] h = absurd h
all_zip_length R (x ∷ xs) (y ∷ ys) h = ap suc (all_zip_length R xs ys h.1)

some : {A : Type 0} (xs : List A) → 0 < length xs → A
some [] h = absurd (omega arith)
some (x ∷ xs) h = x

module _ (p : ℕ) (es : List Entry) (rs : List Ratio) (z : AllZip (IsEntryRatio p) es rs) where
  same_length : length es ≡ length rs
  same_length = all_zip_length (IsEntryRatio p) es rs z

  entry_says : (t : Ratio → Bool) (P : Entry → Type 0)
      → ((e : Entry) (r : Ratio) → IsEntryRatio p e r → Tells (t r) (P e)) → (w : ℕ) → IsAt t rs w
      → IsEntry P es w
  entry_says t P tell w a =
      let r = some rs (omega (arith, a.2)) in
      let lt : a.0 < length es = omega (arith, a.2, same_length) in (
        a.0,
        a.1,
        lt,
        λ d. (tell (get_or es a.0 d) (get_or rs a.0 r)
            (all_zip_at (IsEntryRatio p) es rs a.0 d r z lt)).says (a.3 r),
      )

  entry_holds : (t : Ratio → Bool) (P : Entry → Type 0)
      → ((e : Entry) (r : Ratio) → IsEntryRatio p e r → Tells (t r) (P e)) → (w : ℕ)
      → IsEntry P es w → IsAt t rs w
  entry_holds t P tell w a =
      let e = some es (omega (arith, a.2)) in (
        a.0,
        a.1,
        omega (arith, a.2, same_length),
        λ r.
            (tell (get_or es a.0 e) (get_or rs a.0 r)
            (all_zip_at (IsEntryRatio p) es rs a.0 e r z a.2)).holds (a.3 e),
      )

-- ---- Faults

module _ (v : Text) (rs : List Ratio) (known : IsTrue (is_in v.number primes))
    (z : AllZip (IsEntryRatio v.number) v.entries rs) where
  finds_says : (f : TextFault) → Finds rs f → Says v f
  finds_says (fault.NoY w) h = (
    h.0,
    entry_says v.number v.entries rs z lacks_y (LacksY v.number)
        (tells_lacks v.number) w h.1,
  )
  finds_says (fault.ZeroDenominator w)
      h = (
        h.0,
        entry_says v.number v.entries rs z is_over_zero (IsOverZero v.number)
            (tells_over_zero v.number) w h.1,
      )
  finds_says (fault.Degree w) h = elim h [
    | inl a ↦ inl (
      a.0,
      entry_says v.number v.entries rs z equation_exceeds
          (EquationExceeds v.number) (tells_equation v.number) w a.1,
    )
    | inr a ↦ inr (
      a.0,
      entry_says v.number v.entries rs z element_exceeds (ElementExceeds v.number)
          (tells_element v.number) w a.1,
    )
  ]
  finds_says _ h = absurd h

  says_finds : (f : TextFault) → Says v f → Finds rs f
  says_finds fault.NotPrime h = absurd (h known)
  says_finds (fault.NoY w) h = (
    h.0,
    entry_holds v.number v.entries rs z lacks_y (LacksY v.number)
        (tells_lacks v.number) w h.1,
  )
  says_finds (fault.ZeroDenominator w)
      h = (
        h.0,
        entry_holds v.number v.entries rs z is_over_zero (IsOverZero v.number)
            (tells_over_zero v.number) w h.1,
      )
  says_finds (fault.Degree w) h = elim h [
    | inl a ↦ inl (
      a.0,
      entry_holds v.number v.entries rs z equation_exceeds
          (EquationExceeds v.number) (tells_equation v.number) w a.1,
    )
    | inr a ↦ inr (
      a.0,
      entry_holds v.number v.entries rs z element_exceeds
          (ElementExceeds v.number) (tells_element v.number) w a.1,
    )
  ]
  says_finds _ h = absurd h

  first_says : (f : TextFault) → first_fault rs ≡ Some f → IsFirst v f
  first_says f e =
      let h : IsFound rs (Some f) = subst (IsFound rs) e (first_is_found rs) in
      record { says = finds_says f h.0; first = λ g l s. h.1 g l (says_finds g s) }

  none_says : first_fault rs ≡ None → (f : TextFault) → Says v f → ⊥
  none_says e f s =
      let h : IsFound rs None = subst (IsFound rs) e (first_is_found rs) in
      h f (says_finds f s)

pub answers_first : (v : Text) (f : TextFault) → IsFirst v f → Answers v (Err f)
answers_first v fault.NoMemory h = tt
answers_first v _ h = h

pub not_prime_first : (v : Text) → (IsTrue (is_in v.number primes) → ⊥) → IsFirst v fault.NotPrime
not_prime_first v h = record { says = h; first = none }
  where
    none : (g : TextFault) → Precedes g fault.NotPrime → Says v g → ⊥
    none (fault.Syntax at) l s = s
    none fault.NoMemory l s = s
    none _ l s = elim l [ inl a ↦ absurd (omega arith) | inr a ↦ absurd (omega (arith, a.0, a.1)) ]

-- ---- Jobs

elements_hold : (p : ℕ) (es : List Entry) (rs : List Ratio) (xs : List RawElem)
    → AllZip (IsEntryRatio p) es rs → AllZip (IsElementOf p) rs xs → AllZip (IsElement p) es xs
elements_hold p [] [] [] z h = tt
elements_hold p [] [] (x ∷ xs) z h = absurd h
elements_hold p [] (r ∷ rs) xs z h = absurd z
elements_hold p (e ∷ es) [] xs z h = absurd z
elements_hold p (e ∷ es) (r ∷ rs) [] z h = absurd h
elements_hold p (e ∷ es) (r ∷ rs) (x ∷ xs) z h = (
  record {
    numerator = h.0.numerator (numerator_of p e) z.0.numerator;
    denominator = h.0.denominator (denominator_of p e) z.0.denominator;
  },
  elements_hold p es rs
      xs z.1 h.1,
)

pub job_entries : (p : ℕ) (es : List Entry) (rs : List Ratio) (job : Job)
    → AllZip (IsEntryRatio p) es rs → 0 < length rs
    → HoldsAt (λ (s : Ratio). IsEquationOf p s job.first) rs 0
    → HoldsAt (λ (s : Ratio). IsEquationOf p s job.second) rs (min (length rs) 2 - 1)
    → AllZip (IsElementOf p) (elements rs) job.elems.items
    → HoldsEntries p es job
job_entries p [] [] job z pos a b c = absurd (omega arith)
job_entries p [] (r ∷ rs) job z pos a b c = absurd z
job_entries p (e ∷ es) [] job z pos a b c = absurd z
job_entries p (e ∷ []) (r ∷ []) job z pos a b c = (
  record {
    first = a r (numerator_of p e) z.0.numerator;
    second = b r (numerator_of p e)
        z.0.numerator;
  },
  nothing job.elems.items c,
)
  where
    nothing : (xs : List RawElem) → AllZip (IsElementOf p) [] xs → xs ≡ []
    nothing [] h = refl
    nothing (x ∷ xs) h = absurd h
job_entries p (e ∷ []) (r ∷ s ∷ rs) job z pos a b c = absurd z.1
job_entries p (e ∷ f ∷ es) (r ∷ []) job z pos a b c = absurd z.1
job_entries p (e ∷ f ∷ es) (r ∷ s ∷ rs) job z pos a b c =
    let two : min (length (r ∷ s ∷ rs)) 2 ≡ 2 = omega arith in
    let one : min (length (r ∷ s ∷ rs)) 2 - 1 ≡ 1 = omega arith in
    let second : HoldsAt (λ (t : Ratio). IsEquationOf p t job.second) (r ∷ s ∷ rs) 1 = subst
    (λ k. HoldsAt (λ (t : Ratio). IsEquationOf p t job.second) (r ∷ s ∷ rs) k) one b in
    let rest : AllZip (IsElementOf p) rs job.elems.items = subst
    (λ n. AllZip (IsElementOf p) (drop n (r ∷ s ∷ rs)) job.elems.items) two c in (
      record {
        first = a r (numerator_of p e) z.0.numerator;
        second = second s (numerator_of p f)
            z.1.0.numerator;
      },
      elements_hold p es rs job.elems.items z.1.1 rest,
    )

-- ---- The text that was read

lines_length : (ls : List Line) {s : List Symbol} {es : List Entry} → Lines ls s es → length es
    ≡ length ls
lines_length [] (Lines.none a) = refl
lines_length (k ∷ ls) (Lines.equation a b p l r) = ap suc (lines_length ls r)
lines_length (k ∷ ls) (Lines.element a b p l r) = ap suc (lines_length ls r)

lines_of_length : (m : Mode) → (0 < length (lines_of m)) × (length (lines_of m) ≤ 6)
lines_of_length mode.Iso = (lit< tt, lit≤ tt)
lines_of_length mode.Aut = (lit< tt, lit≤ tt)
lines_of_length mode.Order = (lit< tt, lit≤ tt)
lines_of_length mode.Check = (lit< tt, lit≤ tt)

text_length : (m : Mode) {s : List Symbol} {v : Text} → IsText (lines_of m) s v → length v.entries
    ≡ length (lines_of m)
text_length m (IsText.text a b d c l r) = lines_length (lines_of m) r

some_is : (S T : Progress) → Some S ≡ Some T → S ≡ T
some_is S T e = cc

module _ (m : Mode) (bytes : List ℕ) (S : Progress) (e : finish (reads m bytes) ≡ Some S)
    (number : ℕ) (fs : List Fraction) (n : number ≡ S.number) (q : map quotient fs ≡ S.entries)
  where
    final : (v : Text) → Derives m bytes v → S ≡ end_of v
    final v d = some_is S (end_of v) (sym e ∙ derives_reads m bytes v d)

    pub number_same : (v : Text) → Derives m bytes v → number ≡ v.number
    number_same v d = n ∙ ap (λ (T : Progress). T.number) (final v d)

    entries_same : (v : Text) → Derives m bytes v → map quotient fs
        ≡ map (reduced_entry (modulus v.number)) v.entries
    entries_same v d = q ∙ ap (λ (T : Progress). T.entries) (final v d)

    pub entries_length : (0 < length fs) × (length fs ≤ 6)
    entries_length =
        let t = reads_derives m bytes S e in
        let l : length (map quotient fs)
        ≡ length (map (reduced_entry (modulus t.0.number)) t.0.entries) = ap length
        (entries_same t.0 t.1) in
        let f = lines_of_length m in (
          omega (
            arith,
            length-map fs quotient,
            length-map t.0.entries
                (reduced_entry (modulus t.0.number)),
            text_length m t.1,
            f.0,
            l,
          ),
          omega (
            arith,
            length-map fs quotient,
            length-map t.0.entries
                (reduced_entry (modulus t.0.number)),
            text_length m t.1,
            f.1,
            l,
          ),
        )

    pub sums_of_text : (v : Text) → Derives m bytes v → IsTrue (is_in number primes)
        → (rs : List Ratio) → AreRatios number fs rs → AllZip (IsEntryRatio v.number) v.entries rs
    sums_of_text v d known rs h =
        let w = number_same v d in
        let k : modulus v.number ≡ v.number = (let a = above_one number known in omega arith) in
        entry_ratios v.number v.entries fs rs
        (entries_same v d ∙ ap (λ p. map (reduced_entry p) v.entries) k)
        (subst (λ p. AreRatios p fs rs) w h)

pub ratios_reduced : (p : ℕ) (fs : List Fraction) (rs : List Ratio) → 0 < p → AreRatios p fs rs
    → All (IsReduced p) rs
ratios_reduced p [] [] pos h = λ k d l. absurd (omega arith)
ratios_reduced p [] (r ∷ rs) pos h = absurd h
ratios_reduced p (f ∷ fs) [] pos h = absurd h
ratios_reduced p (f ∷ fs) (r ∷ rs) pos h = λ k d l. at k d l (ratios_reduced p fs rs pos h.1)
  where
    below : (terms cs : List Monomial) → IsCollected p terms cs
        → All (λ (m : Monomial). m.coefficient < p) cs
    below terms cs c k d l = rw (c.each k d l).0 (mod-lt _ pos)

    at : (k : ℕ) (d : Ratio) → k < length (r ∷ rs) → All (IsReduced p) rs
        → IsReduced p (get_or (r ∷ rs) k d)
    at zero d l a = record {
      numerator = below f.numerator.items r.numerator.items h.0.numerator;
      denominator = below (ratios.denominator_of f) r.denominator.items h.0.denominator;
    }
    at (suc k) d l a = a k d (omega arith)

-- ---- The answers of the call

pub ratios_length : (p : ℕ) (fs : List Fraction) (rs : List Ratio) → AreRatios p fs rs → length fs
    ≡ length rs
ratios_length p fs rs h = all_zip_length (IsRatio p) fs rs h

pub fault_answers : (v : Text) (p : ℕ) (rs : List Ratio) (f : TextFault) → p ≡ v.number
    → IsTrue (is_in p primes) → AllZip (IsEntryRatio v.number) v.entries rs
    → first_fault rs ≡ Some f → Answers v (Err f)
fault_answers v p rs f w known z e = answers_first v f
    (first_says v rs (subst (λ n. IsTrue (is_in n primes)) w known) z f e)

-- a fault of the values is none of the bytes
pub no_syntax : {A : Type 0} (rs : List Ratio) (at : ℕ) → first_fault rs ≡ Some (fault.Syntax at)
    → A
no_syntax rs at e = let h : IsFound rs (Some (fault.Syntax at)) = subst (IsFound rs) e
    (first_is_found rs) in absurd h.0

pub job_answers : (v : Text) (p : ℕ) (rs : List Ratio) (job : Job) → p ≡ v.number
    → number_of job.prime ≡ p → IsTrue (is_in p primes)
    → AllZip (IsEntryRatio v.number) v.entries rs → 0 < length rs → first_fault rs ≡ None
    → HoldsAt (λ (s : Ratio). IsEquationOf p s job.first) rs 0
    → HoldsAt (λ (s : Ratio). IsEquationOf p s job.second) rs (min (length rs) 2 - 1)
    → AllZip (IsElementOf p) (elements rs) job.elems.items
    → IsJob v job × ((f : TextFault) → Says v f → ⊥)
job_answers v p rs job w k known z pos e a b c = (
  record {
    prime = k ∙ w;
    entries = job_entries v.number v.entries rs job z pos
        (subst (λ n. HoldsAt (λ (s : Ratio). IsEquationOf n s job.first) rs 0) w a)
        (subst (λ n. HoldsAt (λ (s : Ratio). IsEquationOf n s job.second) rs
        (min (length rs) 2 - 1)) w b)
        (subst (λ n. AllZip (IsElementOf n) (elements rs) job.elems.items) w c);
  },
  none_says v rs (subst (λ n. IsTrue (is_in n primes)) w known) z e,
)
