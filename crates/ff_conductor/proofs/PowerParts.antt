-- Over a field with p-th roots each polynomial is h_0^p + u*h_1^p + .. + u^(p-1)*h_(p-1)^p.
use Rattle.std.proofs.Common.{◌≡◌, ℕ, zero, suc, ◌-◌, ◌+◌ as plus_ℕ, ◌*◌ as times_ℕ, ◌<◌, ◌≤◌, ◌⊎◌}
use Rattle.std.proofs.Common.{inl, inr, refl, sym, ◌∙◌, ap, ap₂, subst, arith}
use Rattle.std.proofs.lemmas.Bool.{cases_lt}
use Rattle.ff_theory.specs.Ring.{RingOps, IsCommRing, power}
use Rattle.ff_theory.specs.Lawful.{Field}
use Rattle.ff_theory.specs.Sum.{sum_below}
use Rattle.ff_theory.specs.Poly.{coeff, Poly}
use Rattle.ff_theory.specs.Division.{size}
use Rattle.ff_theory.specs.Eval.{eval}
use Rattle.ff_theory.proofs.Solver.{◌⊕◌, ◌⊗◌, neg, ring2, ring3}
use Rattle.ff_theory.specs.Map.{IsMap}
use Rattle.ff_theory.proofs.Powers.{power-add, power-mul}
use Rattle.ff_theory.proofs.Frobenius.{HasCharacteristic, frobenius-add, power-zero, power-power}
use Rattle.ff_theory.proofs.FrobeniusPoly.{map-power}
use Rattle.ff_theory.proofs.Sums.{sum-ext, sum-mul, sum-swap}
use Rattle.ff_theory.proofs.Division.{size_le, zero_from}
use Rattle.ff_charts.proofs.Rows.{polynomial_of, polynomial_at, polynomial_past, value_sum}
use Rattle.ff_charts.proofs.Rows.{value_of_listed}
use Rattle.ff_conductor.proofs.Trace.{sum-blocks}

module _ (R : RingOps) (laws : IsCommRing R) (p : ℕ) (char : HasCharacteristic R p) where
  infixl 60 ◌+◌
  infixl 70 ◌*◌
  open R use {add as ◌+◌, mul as ◌*◌, neg as minus, carrier as C}

  pub power-sums : (n : ℕ) (f : ℕ → C) → power R (sum_below R n f) p
      ≡ sum_below R n (λ i. power R (f i) p)
  power-sums zero f = power-zero R laws p char.positive
  power-sums (suc n) f = frobenius-add R laws p char (sum_below R n f) (f n)
      ∙ ap (λ t. t + power R (f n) p) (power-sums n f)

  pub power-minus : (a b : C) → power R (a + minus b) p ≡ power R a p + minus (power R b p)
  power-minus a b = ring2 R laws (λ s t. s) (λ s t. (s ⊕ t) ⊕ neg t) refl (power R (a + minus b) p)
      (power R b p)
      ∙ ap (λ t. t + minus (power R b p))
      (sym (frobenius-add R laws p char (a + minus b) b)
      ∙ ap (λ t. power R t p) (ring2 R laws (λ a b. (a ⊕ neg b) ⊕ b) (λ a b. a) refl a b))

  pub power-exchange : (a : C) (i : ℕ) → power R (power R a p) i ≡ power R (power R a i) p
  power-exchange a i = power-power R laws a p i
      ∙ (let e : times_ℕ i p ≡ times_ℕ p i = omega arith in ap (power R a) e)
      ∙ sym (power-power R laws a i p)

-- p-th roots of constants
pub record HasRoots (K : RingOps) (p : ℕ) : Type 0 where
  pub root : K.carrier → K.carrier
  pub is_root : (a : K.carrier) → power K (root a) p ≡ a
  pub on_zero : root K.zero ≡ K.zero

module _ (K : Field) (q : ℕ) (roots : HasRoots K.ring (suc q)) where
  -- the coefficients r, r + p, r + 2*p, .. , by their roots
  unfoldable pub part : Poly K.ring → ℕ → Poly K.ring
  part h r = polynomial_of K.ring K.laws K.tests (size K.ring h)
      (λ j. roots.root (coeff K.ring h.coeffs (plus_ℕ (times_ℕ j (suc q)) r)))

  pub part_size : (h : Poly K.ring) (r m : ℕ) → size K.ring h ≤ times_ℕ m (suc q)
      → size K.ring (part h r) ≤ m
  unfolding part
  part_size h r m l = size_le K.ring K.laws K.tests (part h r) m
      (λ j s. go j s (cases_lt j (size K.ring h)))
    where
      go : (j : ℕ) → m ≤ j → (j < size K.ring h) ⊎ (size K.ring h ≤ j)
          → coeff K.ring (part h r).coeffs j ≡ K.zero
      go j s (inl t) = polynomial_at K.ring K.laws K.tests (size K.ring h)
          (λ j. roots.root (coeff K.ring h.coeffs (plus_ℕ (times_ℕ j (suc q)) r))) j t
          ∙ ap roots.root (zero_from K.ring K.laws K.tests h _ (past j s)) ∙ roots.on_zero
        where
          past : (j : ℕ) → m ≤ j → size K.ring h ≤ plus_ℕ (times_ℕ j (suc q)) r
          past j s = let e : j ≡ plus_ℕ m (j - m) = omega arith in subst
              (λ k. size K.ring h ≤ plus_ℕ (times_ℕ k (suc q)) r) (sym e) (more (j - m))
            where
              more : (d : ℕ) → size K.ring h ≤ plus_ℕ (times_ℕ (plus_ℕ m d) (suc q)) r
              more d = let e : times_ℕ (plus_ℕ m d) (suc q)
                  ≡ plus_ℕ (times_ℕ m (suc q)) (times_ℕ d (suc q)) = omega arith in omega
                  (arith, e, l)
      go j s (inr t) = polynomial_past K.ring K.laws K.tests (size K.ring h)
          (λ j. roots.root (coeff K.ring h.coeffs (plus_ℕ (times_ℕ j (suc q)) r))) j t

  module _ (A : RingOps) (AL : IsCommRing A) (char : HasCharacteristic A (suc q))
      (constant : K.carrier → A.carrier) (map : IsMap K.ring A constant) (u : A.carrier) where
    infixl 70 ◌*◌
    open A use {mul as ◌*◌, carrier as C}

    abbrev p : ℕ
    p = suc q

    -- split_p, for the values at u
    pub split_p : (h : Poly K.ring) → eval K.ring A constant u h
        ≡ sum_below A (suc q) (λ r. A.mul (power A u r) (power A (eval K.ring A constant u (part h
        r)) (suc q)))
    unfolding part
    split_p h = value_sum K.ring K.laws K.tests A AL constant map.on_zero u h (times_ℕ n p)
        (enough n)
        ∙ sum-blocks A AL n p _
        ∙ sum-swap A AL n p (λ j r. constant (coeff K.ring h.coeffs (plus_ℕ (times_ℕ j p) r)) *
        power A u (plus_ℕ (times_ℕ j p) r))
        ∙ sum-ext A AL p _ _ (λ r l. sym
        (ap (λ t. power A u r * power A t p)
        (value_of_listed K.ring K.laws K.tests A AL constant map.on_zero u n
        (λ j. roots.root (coeff K.ring h.coeffs (plus_ℕ (times_ℕ j p) r))))
        ∙ ap (λ t. power A u r * t) (power-sums A AL p char n _)
        ∙ sym (sum-mul A AL n (power A u r) _) ∙ sum-ext A AL n _ _ (λ j s. one j r)))
      where
        n : ℕ
        n = size K.ring h

        enough : (m : ℕ) → m ≤ times_ℕ m p
        enough m = let e : times_ℕ m (suc q)
            ≡ plus_ℕ m (times_ℕ m q) = omega arith in omega (arith, e)

        one : (j r : ℕ) → power A u r * power A
            (constant (roots.root (coeff K.ring h.coeffs (plus_ℕ (times_ℕ j p) r))) * power A u j) p
            ≡ constant (coeff K.ring h.coeffs (plus_ℕ (times_ℕ j p) r)) * power A u
            (plus_ℕ (times_ℕ j p) r)
        one j r = ap (λ t. power A u r * t) (power-mul A AL _ (power A u j) p
            ∙ ap₂ A.mul (sym (map-power K.ring A constant map
            (roots.root (coeff K.ring h.coeffs (plus_ℕ (times_ℕ j p) r))) p)
            ∙ ap constant (roots.is_root _))
            (power-power A AL u j p ∙ (let e : times_ℕ p j ≡ times_ℕ j p = omega arith in ap
            (power A u) e)))
            ∙ ring3 A AL (λ a c b. a ⊗ (c ⊗ b)) (λ a c b. c ⊗ (b ⊗ a)) refl (power A u r)
            (constant (coeff K.ring h.coeffs (plus_ℕ (times_ℕ j p) r)))
            (power A u (times_ℕ j p))
            ∙ ap (λ t. constant (coeff K.ring h.coeffs (plus_ℕ (times_ℕ j p) r)) * t)
            (sym (power-add A AL u (times_ℕ j p) r))
