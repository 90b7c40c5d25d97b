-- Each element of k(x)[y]/f has exactly one form in lowest terms.
use Rattle.std.proofs.Common.{◌≡◌, ℕ, zero, suc, ◌<◌, ◌≤◌, ◌⊎◌, inl, inr, Bool, true, false, List}
use Rattle.std.proofs.Common.{[], ◌∷◌, length, map, refl, sym, ◌∙◌, ap, arith}
use Rattle.std.proofs.lemmas.Bool.{cases_lt, ltb-true, lt-ltb, eqb-true}
use mathlib.Core.Quot.{sound}
use mathlib.Core.HLevel.{hedberg, Discrete, Σ_prop_path}
use Rattle.ff_theory.specs.Ring.{RingOps, IsTested}
use Rattle.ff_theory.specs.Lawful.{Domain, Field}
use Rattle.ff_theory.specs.Poly.{coeff, Poly, poly, polynomials}
use Rattle.ff_theory.specs.Division.{size}
use Rattle.ff_theory.proofs.Solver.{◌⊗◌, nil, unit, ring1, ring2, ring3}
use Rattle.ff_theory.proofs.Poly.{Poly_ext, trim-coeff, polynomial_tests}
use Rattle.ff_theory.proofs.Division.{zero_from, size_le}
use Rattle.ff_theory.proofs.FractionField.{Frac, frac, frac_mul, whole_one, exact}
use Rattle.ff_theory.proofs.PolyMap.{polynomial_domain, not_same}
use Rattle.ff_theory.proofs.Quotient.{Class, Class_path}
use Rattle.ff_theory.proofs.Algebra.{rational, fraction_of, Common, common}
use Rattle.ff_theory.proofs.LowestTerms.{Reduced, den_nonzero, reduced_unique, lowest_terms}

-- a ring with a test for equality is a set
pub carrier_set : (R : RingOps) → IsTested R → IsSet R.carrier
carrier_set R tests = hedberg decide
  where
    decide : Discrete R.carrier
    decide a b = go (R.same a b) refl
      where
        go : (t : Bool) → R.same a b ≡ t → Dec (a ≡ b)
        go true e = yes (tests.same_true a b e)
        go false e = no (not_same R tests a b e)

module _ (K : Field) where
  abbrev D : Domain
  D = polynomial_domain K

  -- the fraction N / d
  abbrev pub over : (d : Poly K.ring) → (polynomials K.ring).same d (polynomials K.ring).zero
      ≡ false → Poly K.ring → Frac (polynomial_domain K)
  over d nd N = frac (polynomial_domain K) (record { num = N; den = d; nonzero = nd })

  over_zero : (d : Poly K.ring) (nd : D.same d D.zero ≡ false) → over d nd D.zero
      ≡ (rational K).zero
  over_zero d nd = sound (ring1 D.ring D.laws (λ d. nil ⊗ unit) (λ d. nil ⊗ d) refl d)

  over_at : (d : Poly K.ring) (nd : D.same d D.zero ≡ false) (Ns : List (Poly K.ring)) (i : ℕ)
      → coeff (rational K).ring (map (over d nd) Ns) i ≡ over d nd (coeff D.ring Ns i)
  over_at d nd [] i = sym (over_zero d nd)
  over_at d nd (N ∷ Ns) zero = refl
  over_at d nd (N ∷ Ns) (suc i) = over_at d nd Ns i

  pub over_cancel : (d : Poly K.ring) (nd : D.same d D.zero ≡ false) (N : Poly K.ring)
      → (rational K).mul (fraction_of K d) (over d nd N) ≡ fraction_of K N
  unfolding frac_mul
  over_cancel d nd N = sound (ring2 D.ring D.laws (λ d N. (d ⊗ N) ⊗ unit) (λ d N. N ⊗ (unit ⊗ d))
      refl d N)

  cross : (c N d : Poly K.ring) (nd : D.same d D.zero ≡ false) (h : Poly K.ring) → D.mul N c
      ≡ D.mul h d → (rational K).mul (fraction_of K c) (over d nd N) ≡ fraction_of K h
  unfolding frac_mul
  cross c N d nd h e = sound (ring2 D.ring D.laws (λ c N. (c ⊗ N) ⊗ unit) (λ c N. N ⊗ c) refl c N
      ∙ e ∙ ring2 D.ring D.laws (λ h d. h ⊗ d) (λ h d. h ⊗ (unit ⊗ d)) refl h d)

  module _ (n : ℕ) where
    -- the sum of the fractions num i / den times y ^ i
    unfoldable pub reduced_poly : Reduced K n → Poly (rational K).ring
    reduced_poly t = poly (rational K).ring (map (over t.den (den_nonzero K n t)) t.nums)

    pub reduced_at : (t : Reduced K n) (i : ℕ) → coeff (rational K).ring (reduced_poly t).coeffs i
        ≡ over t.den (den_nonzero K n t) (coeff (polynomials K.ring) t.nums i)
    unfolding poly reduced_poly
    reduced_at t i = trim-coeff (rational K).ring (rational K).laws (rational K).tests
        (map (over t.den (den_nonzero K n t)) t.nums) i ∙ over_at t.den (den_nonzero K n t) t.nums i

    pub nums_past : (Ns : List (Poly K.ring)) (i : ℕ) → length Ns ≤ i → coeff D.ring Ns i ≡ D.zero
    nums_past [] i h = refl
    nums_past (c ∷ p) zero h = absurd (omega arith)
    nums_past (c ∷ p) (suc i) h = nums_past p i (omega arith)

    pub kept_small : (t : Reduced K n) → size (rational K).ring (reduced_poly t) ≤ n
    kept_small t = let c : length t.nums ≡ n = eqb-true (length t.nums) n t.lowest.count in
        size_le (rational K).ring (rational K).laws (rational K).tests (reduced_poly t) n
        (λ i l. reduced_at t i ∙ ap (over t.den (den_nonzero K n t))
        (nums_past t.nums i (omega (arith, c))) ∙ over_zero t.den (den_nonzero K n t))

    -- the class that a kept form stands for
    unfoldable pub reduced_class : Reduced K n → Class (rational K).ring n
    reduced_class t = record {
      rep = reduced_poly t;
      small = lt-ltb _ _
          (let h : size (rational K).ring (reduced_poly t) ≤ n = kept_small t in omega (arith, h));
    }

    -- each class has at most one kept form
    pub reduced_one : (s t : Reduced K n) → reduced_class s ≡ reduced_class t → s ≡ t
    unfolding reduced_class
    reduced_one s t e = reduced_unique K n s t (λ i l. exact (polynomial_domain K) _ _
        (sym (reduced_at s i) ∙ ap (λ (c : Class (rational K).ring n). coeff (rational K).ring
        c.rep.coeffs i) e ∙ reduced_at t i))

    -- and at least one
    abbrev pub KeptOf : Class (rational K).ring n → Type 0
    KeptOf a = (t : Reduced K n) × (reduced_class t ≡ a)

    class_set : IsSet (Class (rational K).ring n)
    class_set = hedberg decide
      where
        decide : Discrete (Class (rational K).ring n)
        decide a b = go ((polynomials (rational K).ring).same a.rep b.rep) refl
          where
            PT : IsTested (polynomials (rational K).ring)
            PT = polynomial_tests (rational K).ring (rational K).laws (rational K).tests

            go : (t : Bool) → (polynomials (rational K).ring).same a.rep b.rep ≡ t → Dec (a ≡ b)
            go true e = yes (Class_path (rational K).ring n a b (PT.same_true a.rep b.rep e))
            go false e = no (λ h. not_same (polynomials (rational K).ring) PT a.rep b.rep e
                (ap (λ (c : Class (rational K).ring n). c.rep) h))

    reduced_prop : (a : Class (rational K).ring n) → IsProp (KeptOf a)
    reduced_prop a s t = Σ_prop_path (λ t. class_set (reduced_class t) a)
        (reduced_one s.0 t.0 (s.1 ∙ sym t.1))

    from_common : (a : Class (rational K).ring n) → Common K a.rep.coeffs → KeptOf a
    unfolding reduced_class
    from_common a c = (
      t.0,
      Class_path (rational K).ring n (reduced_class t.0) a
          (Poly_ext (rational K).ring (rational K).laws (rational K).tests (reduced_poly t.0) a.rep
          (λ i. reduced_at t.0 i ∙ go i (cases_lt i n))),
    )
      where
        t : (t : Reduced K n) × ((i : ℕ) → i < n → D.mul (coeff D.ring t.nums i) c.den
            ≡ D.mul (coeff D.ring c.nums i) t.den)
        t = lowest_terms K n c.den (coeff D.ring c.nums) c.nonzero

        F : Field
        F = rational K

        nd : D.same t.0.den D.zero ≡ false
        nd = den_nonzero K n t.0

        -- a fraction is known by its product with c
        by_c : (u v : F.carrier) → F.mul (fraction_of K c.den) u ≡ F.mul (fraction_of K c.den) v → u
            ≡ v
        by_c u v e = sym (one_times u) ∙ ap (F.mul (F.inverse (fraction_of K c.den))) e
            ∙ one_times v
          where
            one_times : (u : F.carrier) → F.mul (F.inverse (fraction_of K c.den))
                (F.mul (fraction_of K c.den) u) ≡ u
            one_times u = ring3 F.ring F.laws (λ i c u. i ⊗ (c ⊗ u)) (λ i c u. (c ⊗ i) ⊗ u) refl
                (F.inverse (fraction_of K c.den)) (fraction_of K c.den) u
                ∙ ap (λ t. F.mul t u) (F.is_field.mul_inverse (fraction_of K c.den)
                (λ e. not_same D.ring D.tests c.den D.zero c.nonzero (whole_one D c.den D.zero e)))
                ∙ ring1 F.ring F.laws (λ u. unit ⊗ u) (λ u. u) refl u

        go : (i : ℕ) → (i < n) ⊎ (n ≤ i) → over t.0.den nd (coeff D.ring t.0.nums i)
            ≡ coeff F.ring a.rep.coeffs i
        go i (inl l) = by_c _ _ (times_c i l ∙ sym (c.clears i))
          where
            times_c : (i : ℕ) → i < n → F.mul (fraction_of K c.den)
                (over t.0.den nd (coeff D.ring t.0.nums i)) ≡ fraction_of K (coeff D.ring c.nums i)
            times_c i l = cross c.den (coeff D.ring t.0.nums i) t.0.den nd (coeff D.ring c.nums i)
                (t.1 i l)
        go i (inr l) = let k : length t.0.nums ≡ n = eqb-true (length t.0.nums) n t.0.lowest.count
            in
            let small : size F.ring a.rep < suc n = ltb-true _ _ a.small in
            ap (over t.0.den nd) (nums_past t.0.nums i (omega (arith, k))) ∙ over_zero t.0.den nd
            ∙ sym (zero_from F.ring F.laws F.tests a.rep i (omega (arith, small)))

    -- each class has exactly one kept form
    pub reduced_of : (a : Class (rational K).ring n) → KeptOf a
    reduced_of a = ∥∥₁_rec (reduced_prop a) (from_common a) (common K a.rep.coeffs)

  -- a common denominator, the least
  pub common_of : (u : Poly (rational K).ring) → Common K u.coeffs
  unfolding reduced_class
  common_of u = from_form (reduced_of n a)
    where
      n : ℕ
      n = size (rational K).ring u

      a : Class (rational K).ring n
      a = record { rep = u; small = lt-ltb n (suc n) (omega arith) }

      from_form : KeptOf n a → Common K u.coeffs
      from_form t = record {
        den = t.0.den;
        nonzero = den_nonzero K n t.0;
        nums = t.0.nums;
        clears = λ i. ap (λ (c : Class (rational K).ring n). (rational K).mul
            (fraction_of K t.0.den) (coeff (rational K).ring c.rep.coeffs i)) (sym t.1)
            ∙ clear t.0 i;
      }
        where
          clear : (t : Reduced K n) (i : ℕ) → (rational K).mul (fraction_of K t.den)
              (coeff (rational K).ring (reduced_class n t).rep.coeffs i)
              ≡ fraction_of K (coeff D.ring t.nums i)
          clear t i = ap ((rational K).mul (fraction_of K t.den)) (reduced_at n t i)
              ∙ over_cancel t.den (den_nonzero K n t) (coeff D.ring t.nums i)
