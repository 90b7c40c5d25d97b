-- The equations of a text without a fault have y, and are within the limits.
use Rattle.std.proofs.Common.{◌≡◌, ℕ, zero, suc, ◌+◌, ◌-◌, ◌*◌, ◌<◌, ◌≤◌, inl, inr, ⊎_elim}
use Rattle.std.proofs.Common.{eqb, true, not, IsTrue, List, [], ◌∷◌, length, map, get_or}
use Rattle.std.proofs.Common.{Ok, refl, sym, ap, subst, ◌∙◌, arith, eq-eqb, false}
use Rattle.std.proofs.Math.Nat.{max-le}
use Rattle.std.proofs.lemmas.Bool.{cases_lt, both_ways}
use Rattle.std.proofs.lemmas.List.{get_or_past}
use Rattle.ff_theory.specs.Residue.{residue, residues}
use Rattle.ff_theory.specs.Poly.{ends_in_nonzero, poly, poly_same, polynomials}
use Rattle.ff_theory.specs.PrimeTable.{prime_elements}
use Rattle.ff_prime.specs.Number.{number_of}
use Rattle.ff_theory.specs.Values.{poly_of, x_size}
use Rattle.ff_poly.specs.declared.limits.TheConstants.{MAX_X_DEGREE, MAX_Y_DEGREE, MAX_MONIC_DEGREE}
use Rattle.ff_poly.specs.Limits.{monic_size, IsEquation}
use Rattle.ff_text.specs.declared.fault.TextFault.TheVariants as fault
use Rattle.ff_text.specs.declared.job.Job.{Job}
use Rattle.ff_text.specs.declared.reader.Monomial.{Monomial}
use Rattle.ff_text.specs.Grammar.{Entry, Text}
use Rattle.ff_text.specs.Sums.{total, IsSum}
use Rattle.ff_text.specs.Values.{numerator_of, Occurs, HasY, IsAbove, IsLeading, IsMonicAbove}
use Rattle.ff_text.specs.Values.{LacksY, EquationExceeds, IsEntry, HoldsEntries, HasEquations}
use Rattle.ff_text.specs.Values.{Answers}

-- the last coefficient of a polynomial is not 0
last_positive : (p : ℕ) (c : List ℕ) (n : ℕ)
    → IsTrue (ends_in_nonzero (residues p) (map (residue p) c)) → length c ≡ suc n
    → 0 < get_or c n 0
last_positive p [] n h e = absurd (omega (arith, e))
last_positive p (zero ∷ []) zero h e =
    absurd (both_ways (eqb (residue p 0).number (residue p 0).number)
    (let k : not (eqb (residue p 0).number (residue p 0).number) ≡ true = h in grind arith)
    (eq-eqb _ _ refl))
last_positive p (suc a ∷ []) zero h e = omega arith
last_positive p (a ∷ []) (suc n) h e = absurd (omega (arith, e))
last_positive p (a ∷ b ∷ c) zero h e = absurd (omega (arith, e))
last_positive p (a ∷ b ∷ c) (suc n) h e = last_positive p (b ∷ c) n h (omega (arith, e))

-- the last row of a polynomial in x and y is not 0
last_row : (p : ℕ) (f : List (List ℕ)) (n : ℕ)
    → IsTrue (ends_in_nonzero (polynomials (residues p))
    (map (λ r. poly_of (prime_elements p) r) f)) → length f ≡ suc n → 0 < length (get_or f n [])
unfolding poly poly_same
last_row p [] n h e = absurd (omega (arith, e))
last_row p ([] ∷ []) zero h e = absurd (let k : false ≡ true = h in cc)
last_row p ((a ∷ r) ∷ []) zero h e = omega arith
last_row p (r ∷ []) (suc n) h e = absurd (omega (arith, e))
last_row p (r ∷ s ∷ f) zero h e = absurd (omega (arith, e))
last_row p (r ∷ s ∷ f) (suc n) h e = last_row p (s ∷ f) n h (omega (arith, e))

-- rows of at most m coefficients
narrow : (f : List (List ℕ)) (m : ℕ) → ((j : ℕ) → j < length f → length (get_or f j []) ≤ m)
    → x_size f ≤ m
narrow [] m h = omega arith
narrow (r ∷ f) m h = max-le (h 0 (omega arith)) (narrow f m (λ j lt. h (suc j) (omega arith)))

module _ (p : ℕ) (ms : List Monomial) (f : List (List ℕ)) (is : IsSum p ms f) where
  -- the last coefficient of a row that is not 0 occurs
  occurs : (j n : ℕ) → length (get_or f j []) ≡ suc n → Occurs p ms n j
  occurs j n e = ⊎_elim
      (λ (lt : j < length f). subst (λ c. 0 < c) (is.same n j)
      (last_positive p (get_or f j []) n (is.plane.each j [] lt).canonical e))
      (λ (le : length f ≤ j). absurd
      (let r : length (get_or f j [])
      ≡ 0 = ap length (get_or_past f j [] le) in omega (arith, e, r)))
      (cases_lt j (length f))

  -- what occurs is a coefficient
  within : (i j : ℕ) → Occurs p ms i j → (j < length f) × (i < length (get_or f j []))
  within i j h = ⊎_elim
      (λ (lt : j < length f). (
        lt,
        ⊎_elim (λ (l : i < length (get_or f j [])). l)
            (λ (le : length (get_or f j []) ≤ i). absurd
            (let z : 0 ≡ total p ms i j = sym (get_or_past (get_or f j []) i 0 le)
            ∙ is.same i j in omega (arith, h, z)))
            (cases_lt i (length (get_or f j []))),
      ))
      (λ (le : length f ≤ j). absurd
      (let z : 0 ≡ total p ms i j = sym
      (ap (λ (r : List ℕ). get_or r i 0) (get_or_past f j [] le))
      ∙ is.same i j in omega (arith, h, z)))
      (cases_lt j (length f))

  -- a row of m coefficients, where m is not 0, is one of suc n coefficients
  occurs_last : (j : ℕ) → 0 < length (get_or f j []) → Occurs p ms (length (get_or f j []) - 1) j
  occurs_last j pos = occurs j (length (get_or f j []) - 1) (omega arith)

  top_row : 0 < length f → 0 < length (get_or f (length f - 1) [])
  top_row pos = last_row p f (length f - 1) is.plane.canonical (omega arith)

  low : ¬ IsAbove MAX_X_DEGREE MAX_Y_DEGREE p ms → length f ≤ MAX_Y_DEGREE + 1
  low right = ⊎_elim
      (λ (gt : MAX_Y_DEGREE + 1 < length f).
      let pos = top_row (omega arith) in
      absurd (right (record {
        i = length (get_or f (length f - 1) []) - 1;
        j = length f - 1;
        occurs = occurs_last (length f - 1) pos;
        above = inr (omega arith);
      })))
      (λ (le : length f ≤ MAX_Y_DEGREE + 1). le)
      (cases_lt (MAX_Y_DEGREE + 1) (length f))

  thin : ¬ IsAbove MAX_X_DEGREE MAX_Y_DEGREE p ms → x_size f ≤ MAX_X_DEGREE + 1
  thin right = narrow f (MAX_X_DEGREE + 1) (λ j lt. ⊎_elim
      (λ (gt : MAX_X_DEGREE + 1 < length (get_or f j [])).
      absurd (right (record {
        i = length (get_or f j []) - 1;
        j = j;
        occurs = occurs_last j (omega
            arith);
        above = inl (omega arith);
      })))
      (λ (le : length (get_or f j []) ≤ MAX_X_DEGREE + 1). le)
      (cases_lt (MAX_X_DEGREE + 1) (length (get_or f j []))))

  leading : 0 < length f → IsLeading p ms (length (get_or f (length f - 1) []) - 1) (length f - 1)
  leading pos = record {
    occurs = occurs_last (length f - 1) (top_row pos);
    greatest = λ i j h.
        let w = within i j h in
        ⊎_elim
        (λ (lt : j < length f - 1). inl lt)
        (λ (le : length f - 1 ≤ j).
        let e : j ≡ length f - 1 = omega (arith, w.0) in
        let l : i < length (get_or f (length f - 1) []) = subst (λ k. i < length (get_or f k [])) e
        w.1 in
        inr (e, omega arith))
        (cases_lt j (length f - 1));
  }

  monic : ¬ IsMonicAbove MAX_MONIC_DEGREE p ms → (i : ℕ) → i + 1 < length f
      → 0 < length (get_or f i []) → monic_size f i ≤ MAX_MONIC_DEGREE + 1
  monic right i lt pos = ⊎_elim
      (λ (gt : MAX_MONIC_DEGREE + 1 < monic_size f i).
      let d = length (get_or f (length f - 1) []) - 1 in
      let e : length f - 2 - i ≡ length f - 1 - 1 - i = omega arith in
      let same : (length f - 2 - i) * d ≡ (length f - 1 - 1 - i) * d = ap (λ k. k * d) e in
      absurd (right (record {
        d = d;
        n = length f - 1;
        leading = leading (omega arith);
        i = length (get_or f i []) - 1;
        j = i;
        occurs = occurs_last i pos;
        below = omega arith;
        above = omega (arith, gt, same, pos);
      })))
      (λ (le : monic_size f i ≤ MAX_MONIC_DEGREE + 1). le)
      (cases_lt (MAX_MONIC_DEGREE + 1) (monic_size f i))

  tall : ¬ ¬ HasY p ms → 1 < length f
  tall right = ⊎_elim
      (λ (lt : 1 < length f). lt)
      (λ (le : length f ≤ 1). absurd
      (right (λ h. let w = within h.i h.j h.occurs in omega (arith, w.0, h.positive, le))))
      (cases_lt 1 (length f))

is_equation : (p : ℕ) (e : Entry) (f : List (List ℕ)) → IsSum p (numerator_of p e) f → ¬ LacksY p e
    → ¬ EquationExceeds p e → IsEquation (prime_elements p) f
is_equation p e f is has_y right = record {
  plane = is.plane;
  has_y = tall p (numerator_of p e) f is has_y;
  within = record {
    y = low p (numerator_of p e) f is (λ h. right (inl h));
    x = thin p (numerator_of p e) f is (λ h. right (inl h));
    monic = monic p (numerator_of p e) f is (λ h. right (inr h));
  };
}

has_equations : (p : ℕ) (es : List Entry) (job : Job) → number_of job.prime ≡ p
    → HoldsEntries p es job
    → ((w : ℕ) → w ≤ 2 → ¬ IsEntry (LacksY p) es w)
    → ((w : ℕ) → w ≤ 2 → ¬ IsEntry (EquationExceeds p) es w) → HasEquations job
has_equations p [] job prime h has_y right = absurd h
has_equations p (e ∷ []) job prime h has_y right =
    let le : 1 ≤ 2 = omega arith in
    let one = λ (f : List (List ℕ)) (is : IsSum p (numerator_of p e) f). subst
    (λ q. IsEquation (prime_elements q) f) (sym prime)
    (is_equation p e f is (λ k. has_y 1 le (0, refl, omega arith, λ d. k))
    (λ k. right 1 le (0, refl, omega arith, λ d. k))) in
    record { first = one job.first h.0.first; second = one job.second h.0.second }
has_equations p (e ∷ g ∷ es) job prime h has_y right =
    let le : 1 ≤ 2 = omega arith in
    record {
      first = subst (λ q. IsEquation (prime_elements q) job.first) (sym prime)
          (is_equation p e job.first h.0.first (λ k. has_y 1 le (0, refl, omega arith, λ d. k))
          (λ k. right 1 le (0, refl, omega arith, λ d. k)));
      second = subst (λ q. IsEquation (prime_elements q) job.second) (sym prime)
          (is_equation p g job.second h.0.second
          (λ k. has_y 2 (omega arith) (1, refl, omega arith, λ d. k))
          (λ k. right 2 (omega arith) (1, refl, omega arith, λ d. k)));
    }

-- The equations of a text without a fault.
pub equations_of : (v : Text) (job : Job) → Answers v (Ok job) → HasEquations job
equations_of v job a =
    has_equations v.number v.entries job a.0.prime a.0.entries
    (λ w le h. a.1 (fault.NoY w) (le, h)) (λ w le h. a.1 (fault.Degree w) (inl (le, h)))
