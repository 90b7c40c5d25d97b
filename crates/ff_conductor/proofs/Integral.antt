-- Integral elements: they are those that the derivative carries into the power order with all their
-- powers, and a ring.
use Rattle.std.proofs.Common.{◌≡◌, ℕ, zero, suc, ◌+◌ as plus_ℕ, ◌*◌ as times_ℕ, ◌<◌, ◌≤◌, ◌⊎◌, inl}
use Rattle.std.proofs.Common.{inr, Bool, true, false, refl, sym, ◌∙◌, ap, ap₂, arith}
use Rattle.std.proofs.lemmas.Bool.{cases_lt}
use Rattle.ff_theory.specs.Ring.{RingOps, IsCommRing, power}
use Rattle.ff_theory.specs.Lawful.{Domain, Field}
use Rattle.ff_theory.specs.Sum.{sum_below}
use Rattle.ff_theory.specs.Poly.{Poly, polynomials}
use Rattle.ff_theory.specs.Division.{size}
use Rattle.ff_theory.specs.Eval.{eval}
use Rattle.ff_theory.proofs.Solver.{◌⊗◌, unit, ring1, ring3, ring4, mul_zero}
use Rattle.ff_theory.specs.Map.{IsMap}
use Rattle.ff_theory.proofs.Powers.{power-mul}
use Rattle.ff_theory.proofs.Frobenius.{HasCharacteristic, binomial, power-sum, power-zero}
use Rattle.ff_theory.proofs.Sums.{sum-ext, sum-mul, sum-zero}
use Rattle.ff_theory.proofs.Division.{const, x}
use Rattle.ff_theory.proofs.Evaluate.{const_map, is_eval}
use Rattle.ff_theory.proofs.PolyMap.{polynomial_domain, not_same, nonzero_size}
use Rattle.ff_theory.proofs.QuotientUnits.{unit_poly}
use Rattle.ff_charts.specs.Chart.{Chart, at_u, InPowers, IsIntegral, IsChart}
use Rattle.ff_charts.proofs.Chart.{at_u_map, powers_at, powers_u, powers_zero, powers_mul}
use Rattle.ff_charts.proofs.Chart.{powers_add, powers_power, powers_over}
use Rattle.ff_conductor.proofs.PowerParts.{HasRoots, part, part_size, split_p}
use Rattle.ff_conductor.proofs.Conductor.{different, powers_different, IsFree, root_step}

-- p^r * J
abbrev pub reach : ℕ → ℕ → ℕ → ℕ
reach p zero J = J
reach p (suc r) J = times_ℕ p (reach p r J)

pub times-mono : (p j m : ℕ) → j ≤ m → times_ℕ p j ≤ times_ℕ p m
times-mono zero j m l = omega arith
times-mono (suc p) j m l = let h : times_ℕ p j ≤ times_ℕ p m = times-mono p j m l in let a : times_ℕ
    (suc p) j ≡ plus_ℕ j (times_ℕ p j) = omega arith in let b : times_ℕ (suc p) m
    ≡ plus_ℕ m (times_ℕ p m) = omega arith in omega (arith, h, a, b, l)

pub reach-far : (q n : ℕ) → 0 < q → (n ≤ reach (suc q) n 1) × (1 ≤ reach (suc q) n 1)
reach-far q zero l = (omega arith, omega arith)
reach-far q (suc n) l = go (reach (suc q) n 1) (reach-far q n l)
  where
    go : (m : ℕ) → (n ≤ m) × (1 ≤ m) → (suc n ≤ times_ℕ (suc q) m) × (1 ≤ times_ℕ (suc q) m)
    go m h = let a : times_ℕ (suc q) m
        ≡ plus_ℕ m (times_ℕ q m) = omega arith in let b : times_ℕ 1 m ≤ times_ℕ q m = mono m in
        let c : times_ℕ 1 m ≡ m = omega arith in
        (omega (arith, h.0, h.1, a, b, c), omega (arith, h.1, a))
      where
        mono : (m : ℕ) → times_ℕ 1 m ≤ times_ℕ q m
        mono m = let h : times_ℕ m 1 ≤ times_ℕ m q = times-mono m 1 q (omega arith) in
            let a : times_ℕ m 1 ≡ times_ℕ 1 m = omega arith in let b : times_ℕ m q
            ≡ times_ℕ q m = omega arith in omega (arith, h, a, b)

-- one of the parts of a polynomial that is not 0 is not 0
module _ (K : Field) (q : ℕ) (roots : HasRoots K.ring (suc q))
    (charP : HasCharacteristic (polynomials K.ring) (suc q)) where
  abbrev P : Domain
  P = polynomial_domain K

  pub record SomePart (g : Poly K.ring) (n : ℕ) : Type 0 where
    pub place : ℕ
    pub below : place < n
    pub nonzero : (polynomials K.ring).same (part K q roots g place) (polynomials K.ring).zero
        ≡ false

  find : (g : Poly K.ring) (n : ℕ) → SomePart g n ⊎ ((r : ℕ) → r < n → part K q roots g r ≡ P.zero)
  find g zero = inr (λ r l. absurd (omega arith))
  find g (suc n) = go (find g n) (P.same (part K q roots g n) P.zero) refl
    where
      go : SomePart g n ⊎ ((r : ℕ) → r < n → part K q roots g r ≡ P.zero) → (b : Bool)
          → P.same (part K q roots g n) P.zero ≡ b → SomePart g (suc n)
          ⊎ ((r : ℕ) → r < suc n → part K q roots g r ≡ P.zero)
      go (inl s) b e = inl (record {
        place = s.place;
        below = let h : s.place < n = s.below in omega
            (arith, h);
        nonzero = s.nonzero;
      })
      go (inr h) false e = inl (record { place = n; below = omega arith; nonzero = e })
      go (inr h) true e = inr (λ r l. pick r l (cases_lt r n))
        where
          pick : (r : ℕ) → r < suc n → (r < n) ⊎ (n ≤ r) → part K q roots g r ≡ P.zero
          pick r l (inl m) = h r m
          pick r l (inr m) = let z : r ≡ n = omega arith in ap (part K q roots g) z
              ∙ P.tests.same_true (part K q roots g n) P.zero e

  identity : IsMap (polynomials K.ring) (polynomials K.ring) (λ h. h)
  identity = record {
    on_zero = refl;
    on_one = refl;
    on_add = λ a b. refl;
    on_neg = λ a. refl;
    on_mul = λ a b. refl;
  }

  pub some_part : (g : Poly K.ring) → (polynomials K.ring).same g (polynomials K.ring).zero ≡ false
      → SomePart g (suc q)
  some_part g ng = go (find g (suc q))
    where
      at_itself : (h : Poly K.ring) → h
          ≡ eval K.ring (polynomials K.ring) (const K.ring K.laws K.tests) (x K.ring K.laws K.tests)
          h
      at_itself h = is_eval K.ring (polynomials K.ring) K.laws K.tests (λ h. h) identity h

      go : SomePart g (suc q) ⊎ ((r : ℕ) → r < suc q → part K q roots g r ≡ P.zero)
          → SomePart g (suc q)
      go (inl s) = s
      go (inr h) = absurd (not_same (polynomials K.ring) P.tests g P.zero ng (at_itself g
          ∙ split_p K q roots (polynomials K.ring) P.laws charP (const K.ring K.laws K.tests)
          (const_map K.ring K.laws K.tests) (x K.ring K.laws K.tests) g
          ∙ sum-ext (polynomials K.ring) P.laws (suc q) _ (λ r. P.zero)
          (λ r l. ap (λ t. P.mul (power P.ring (x K.ring K.laws K.tests) r)
          (power P.ring t (suc q))) (sym (at_itself (part K q roots g r)) ∙ h r l)
          ∙ ap (P.mul (power P.ring (x K.ring K.laws K.tests) r))
          (power-zero P.ring P.laws (suc q) charP.positive) ∙ mul_zero P.ring P.laws _)
          ∙ sum-zero (polynomials K.ring) P.laws (suc q)))

module _ (K : Field) (A : RingOps) (AL : IsCommRing A) (c : Chart K.ring A) (l : IsChart K.ring A c)
  where
    infixl 60 ◌+◌
    infixl 70 ◌*◌
    open A use {add as ◌+◌, mul as ◌*◌, neg as minus, carrier as C}

    abbrev Q : Domain
    Q = polynomial_domain K

    abbrev U : IsMap (polynomials K.ring) A (at_u c)
    U = at_u_map K A AL c l

    -- any polynomial that is not 0 serves in the place of a modulus
    pub integral_by : (h : Poly K.ring) → (polynomials K.ring).same h (polynomials K.ring).zero
        ≡ false → (s : A.carrier) → ((j : ℕ) → InPowers c (A.mul (at_u c h) (power A s j)))
        → IsIntegral c s
    integral_by h nh s powers = record {
      modulus = l.modulus_of h;
      is_modulus = l.is_modulus h nh;
      powers = λ j. powers_over K A AL c l (l.unit_of h) (l.is_unit h nh) _ (powers_at K A AL c l (
          ap (λ t. t * power A s j) (ap (at_u c) (l.splits h nh) ∙ U.on_mul (l.modulus_of h)
          (l.unit_of
          h))
          ∙ ring3 A AL (λ m u s. (m ⊗ u) ⊗ s) (λ m u s. u ⊗ (m ⊗ s)) refl (at_u c (l.modulus_of h))
          (at_u c (l.unit_of h)) (power A s j)) (powers j));
    }

    -- the integral elements are a ring that holds the power order
    pub integral_powers : (a : A.carrier) → InPowers c a → IsIntegral c a
    integral_powers a h = record {
      modulus = Q.one;
      is_modulus = l.one_modulus;
      powers = λ j.
          powers_mul K A AL c l _ _ (powers_u K A AL c l Q.one) (powers_power K A AL c l a h j);
    }

    pub integral_mul : (s t : A.carrier) → IsIntegral c s → IsIntegral c t
        → IsIntegral c (A.mul s t)
    integral_mul s t h k = record {
      modulus = Q.mul h.modulus k.modulus;
      is_modulus = l.modulus_product h.modulus k.modulus h.is_modulus k.is_modulus;
      powers = λ j. powers_at K A AL c l
          (sym (ap₂ A.mul (U.on_mul h.modulus k.modulus) (power-mul A AL s t j)
          ∙ ring4 A AL (λ m n s t. (m ⊗ n) ⊗ (s ⊗ t)) (λ m n s t. (m ⊗ s) ⊗ (n ⊗ t)) refl
          (at_u c h.modulus) (at_u c k.modulus) (power A s j) (power A t j)))
          (powers_mul K A AL c l _ _ (h.powers j) (k.powers j));
    }

    powers_sum : (n : ℕ) (f : ℕ → C) → ((i : ℕ) → InPowers c (f i)) → InPowers c (sum_below A n f)
    powers_sum zero f h = powers_zero K A AL c l
    powers_sum (suc n) f h = powers_add K A AL c l (sum_below A n f) (f n) (powers_sum n f h) (h n)

    pub integral_add : (s t : A.carrier) → IsIntegral c s → IsIntegral c t
        → IsIntegral c (A.add s t)
    integral_add s t h k = record {
      modulus = Q.mul h.modulus k.modulus;
      is_modulus = l.modulus_product h.modulus k.modulus h.is_modulus k.is_modulus;
      powers = λ j. powers_at K A AL c l
          (sym (ap₂ A.mul (U.on_mul h.modulus k.modulus) (power-sum A AL t s j)
          ∙ sym (sum-mul A AL (suc j) (at_u c h.modulus * at_u c k.modulus) _)
          ∙ sum-ext A AL (suc j) _ (λ i. at_u c h.modulus * power A s i * (at_u c k.modulus * power
          A
          t 0 * binomial A t j i)) (λ i r.
          ring4 A AL (λ m n b s. (m ⊗ n) ⊗ (b ⊗ s)) (λ m n b s. (m ⊗ s) ⊗ ((n ⊗ unit) ⊗ b)) refl
          (at_u c h.modulus) (at_u c k.modulus) (binomial A t j i) (power A s i))))
          (powers_sum (suc j) _ (λ i. powers_mul K A AL c l _ _ (h.powers i) (coefficient j i 0)));
    }
      where
        coefficient : (n i e : ℕ) → InPowers c (at_u c k.modulus * power A t e * binomial A t n i)
        coefficient zero zero e = powers_at K A AL c l (sym (AL.mul_one _)) (k.powers e)
        coefficient zero (suc i) e = powers_at K A AL c l (sym (mul_zero A AL _))
            (powers_zero K A AL c l)
        coefficient (suc n) zero e = powers_at K A AL c l
            (ring4 A AL (λ m t p b. (m ⊗ (t ⊗ p)) ⊗ b) (λ m t p b. (m ⊗ p) ⊗ (t ⊗ b)) refl
            (at_u c k.modulus) t (power A t e) (binomial A t n zero)) (coefficient n zero (suc e))
        coefficient (suc n) (suc i) e = powers_at K A AL c l
            (ap (λ v. at_u c k.modulus * power A t e * binomial A t n i + v)
            (ring4 A AL (λ m t p b. (m ⊗ (t ⊗ p)) ⊗ b) (λ m t p b. (m ⊗ p) ⊗ (t ⊗ b)) refl
            (at_u c k.modulus) t (power A t e) (binomial A t n (suc i)))
            ∙ sym (AL.mul_add _ _ _)) (powers_add K A AL c l _ _ (coefficient n i e) (coefficient n
            (suc i) (suc e)))

    module _ (q : ℕ) (more : 0 < q) (char : HasCharacteristic A (suc q))
        (charP : HasCharacteristic (polynomials K.ring) (suc q)) (roots : HasRoots K.ring (suc q))
        (free : IsFree K A AL c l q char roots) where
      abbrev D : C
      D = different K A AL c l

      pub root_descent : (r J : ℕ) (s : A.carrier) (g : Poly K.ring)
          → (polynomials K.ring).same g (polynomials K.ring).zero ≡ false
          → size K.ring g ≤ reach (suc q) r 1
          → ((j : ℕ) → j ≤ reach (suc q) r J
          → InPowers c (A.mul (at_u c g) (A.mul (different K A AL c l) (power A s j))))
          → (j : ℕ) → j ≤ J → InPowers c (A.mul (different K A AL c l) (power A s j))
      root_descent zero J s g ng small h j m = by_unit
          (unit_poly K g (let z : (k : ℕ)
          × (size K.ring g ≡ suc k) = nonzero_size K g ng in omega (arith, z.1, small)))
        where
          by_unit : (i : Poly K.ring) × (Q.mul i g ≡ Q.one) → InPowers c (D * power A s j)
          by_unit i = powers_at K A AL c l
              (sym (AL.mul_assoc (at_u c i.0) (at_u c g) (D * power A s j))
              ∙ ap (λ t. t * (D * power A s j)) (sym (U.on_mul i.0 g) ∙ ap (at_u c) i.1 ∙ U.on_one)
              ∙ ring1 A AL (λ a. unit ⊗ a) (λ a. a) refl (D * power A s j))
              (powers_mul K A AL c l (at_u c i.0) _ (powers_u K A AL c l i.0) (h j m))
      root_descent (suc r) J s g ng small h j m = go (some_part K q roots charP g ng)
          (λ g' n' s' h'. root_descent r J s g' n' s' h' j m)
        where
          go : SomePart K q roots charP g (suc q)
              → ((g' : Poly K.ring) → Q.same g' Q.zero ≡ false → size K.ring g' ≤ reach (suc q) r 1
              → ((j : ℕ) → j ≤ reach (suc q) r J → InPowers c (at_u c g' * (D * power A s j)))
              → InPowers c (D * power A s j))
              → InPowers c (D * power A s j)
          go t rest = rest (part K q roots g t.place) t.nonzero
              (part_size K q roots g t.place (reach (suc q) r 1)
              (let e : times_ℕ (suc q) (reach (suc q) r 1)
              ≡ times_ℕ (reach (suc q) r 1) (suc q) = omega arith in omega (arith, small, e)))
              (λ j n. root_step K A AL c l q char roots free g s j
              (h (times_ℕ (suc q) j) (times-mono (suc q) j (reach (suc q) r J) n)) t.place
              t.below)

      -- the conductor: with s integral, the derivative carries s and all its powers into the power
      -- order
      pub conductor : (s : A.carrier) → IsIntegral c s → (j : ℕ)
          → InPowers c (A.mul (different K A AL c l) (power A s j))
      conductor s h j = root_descent (size K.ring h.modulus) j s h.modulus
          (l.modulus_nonzero h.modulus h.is_modulus) (reach-far q (size K.ring h.modulus) more).0
          (λ i n. powers_at K A AL c l (ring3 A AL (λ d m s. d ⊗ (m ⊗ s)) (λ d m s. m ⊗ (d ⊗ s))
          refl
          D (at_u c h.modulus) (power A s i))
          (powers_mul K A AL c l D _ (powers_different K A AL c l) (h.powers i))) j (omega arith)

      -- and back, where the derivative divides a polynomial that is not 0
      pub conductor_back : (b : A.carrier) (d : Poly K.ring) → InPowers c b
          → (polynomials K.ring).same d (polynomials K.ring).zero ≡ false
          → A.mul b (different K A AL c l) ≡ at_u c d
          → (s : A.carrier) → ((j : ℕ) → InPowers c (A.mul (different K A AL c l) (power A s j)))
          → IsIntegral c s
      conductor_back b d hb nd e s powers = integral_by d nd s
          (λ j. powers_at K A AL c l (sym (AL.mul_assoc b D (power A s j)) ∙ ap (λ t. t * power A s
          j)
          e) (powers_mul K A AL c l b _ hb (powers j)))
