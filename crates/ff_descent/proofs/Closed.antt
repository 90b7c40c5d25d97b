-- A set that one polynomial carries into the power order and that holds the p-th powers of its
-- elements consists of integral elements.
use Rattle.std.proofs.Common.{◌≡◌, ℕ, zero, suc, pred, ◌-◌, ◌+◌ as plus_ℕ, ◌*◌ as times_ℕ, ◌/◌, ◌%◌}
use Rattle.std.proofs.Common.{◌<◌, ◌≤◌, ◌⊎◌, inl, inr, false, refl, sym, ◌∙◌, ap, ap₂, subst, arith}
use Rattle.std.proofs.lemmas.Bool.{cases_lt}
use Rattle.std.proofs.Math.Nat.{div-add-mod, mod-lt}
use Rattle.ff_theory.specs.Ring.{RingOps, IsCommRing, power}
use Rattle.ff_theory.specs.Lawful.{Domain, Field}
use Rattle.ff_theory.specs.Poly.{Poly, polynomials}
use Rattle.ff_theory.specs.Division.{size}
use Rattle.ff_theory.proofs.Solver.{◌⊗◌, ring3, ring4}
use Rattle.ff_theory.specs.Map.{IsMap}
use Rattle.ff_theory.proofs.Powers.{power-add, power-mul}
use Rattle.ff_theory.proofs.Frobenius.{HasCharacteristic, power-power}
use Rattle.ff_theory.proofs.FrobeniusPoly.{map-power}
use Rattle.ff_theory.proofs.Division.{size-mul-le}
use Rattle.ff_theory.proofs.PolyMap.{polynomial_domain, one_size, nonzero_size}
use Rattle.ff_charts.specs.Chart.{Chart, at_u, InPowers, IsIntegral, IsChart}
use Rattle.ff_charts.proofs.Chart.{at_u_map, powers_at, powers_u, powers_one, powers_mul}
use Rattle.ff_charts.proofs.Chart.{powers_power}
use Rattle.ff_charts.proofs.FiniteChart.{power_nonzero}
use Rattle.ff_conductor.proofs.PowerParts.{HasRoots}
use Rattle.ff_conductor.proofs.Conductor.{different, powers_different, IsFree}
use Rattle.ff_conductor.proofs.Integral.{reach, times-mono, reach-far, root_descent, conductor_back}

times-assoc : (a b c : ℕ) → times_ℕ (times_ℕ a b) c ≡ times_ℕ a (times_ℕ b c)
times-assoc a b c = omega arith

-- powers beat lines
module _ (q : ℕ) (more : 0 < q) where
  abbrev R : ℕ → ℕ
  R n = reach (suc q) n 1

  doubles : (n : ℕ) → plus_ℕ (R n) (R n) ≤ R (suc n)
  doubles n = go (R n)
    where
      go : (m : ℕ) → plus_ℕ m m ≤ times_ℕ (suc q) m
      go m = let a : times_ℕ (suc q) m
          ≡ plus_ℕ m (times_ℕ m q) = omega arith in let h : times_ℕ m 1 ≤ times_ℕ m q = times-mono m
          1 q (omega arith) in let b : times_ℕ m 1 ≡ m = omega arith in omega (arith, a, h, b)

  beats_sum : (a : ℕ) → (r : ℕ) × ((k : ℕ) → plus_ℕ (plus_ℕ r k) a ≤ R (plus_ℕ r k))
  beats_sum zero = (
    0,
    λ k. let h : plus_ℕ 0 k ≤ R (plus_ℕ 0 k) = (reach-far q (plus_ℕ 0 k) more).0
        in omega (arith, h),
  )
  beats_sum (suc a) = go (beats_sum a)
    where
      go : (r : ℕ) × ((k : ℕ) → plus_ℕ (plus_ℕ r k) a ≤ R (plus_ℕ r k)) → (r : ℕ)
          × ((k : ℕ) → plus_ℕ (plus_ℕ r k) (suc a) ≤ R (plus_ℕ r k))
      go s = (
        suc (suc s.0),
        λ k. let e : plus_ℕ (suc (suc s.0)) k
            ≡ suc (suc (plus_ℕ s.0 k)) = omega arith in subst (λ m. plus_ℕ m (suc a) ≤ R m) (sym e)
            (step (plus_ℕ s.0 k) (s.1 k)),
      )
        where
          step : (m : ℕ) → plus_ℕ m a ≤ R m → plus_ℕ (suc (suc m)) (suc a) ≤ R (suc (suc m))
          step m h = let d : plus_ℕ (R m) (R m) ≤ R (suc m) = doubles m in let d' : plus_ℕ
              (R (suc m)) (R (suc m)) ≤ R (suc (suc m)) = doubles (suc m) in let o : 1 ≤ R
              m = (reach-far q m more).1 in omega (arith, h, d, d', o)

  pub beats_line : (c a : ℕ) → (r : ℕ)
      × ((k : ℕ) → suc (times_ℕ (plus_ℕ (plus_ℕ r k) a) c) ≤ R (plus_ℕ r k))
  beats_line zero a = (
    0,
    λ k. let e : times_ℕ (plus_ℕ (plus_ℕ 0 k) a) 0
        ≡ 0 = omega arith in let h : 1 ≤ R (plus_ℕ 0 k) = (reach-far q (plus_ℕ 0 k) more).1 in omega
        (arith, e, h),
  )
  beats_line (suc c) a = go (beats_line c (suc a)) (beats_sum (suc a))
    where
      go : (r : ℕ) × ((k : ℕ) → suc (times_ℕ (plus_ℕ (plus_ℕ r k) (suc a)) c) ≤ R (plus_ℕ r k))
          → (r : ℕ) × ((k : ℕ) → plus_ℕ (plus_ℕ r k) (suc a) ≤ R (plus_ℕ r k)) → (r : ℕ)
          × ((k : ℕ) → suc (times_ℕ (plus_ℕ (plus_ℕ r k) a) (suc c)) ≤ R (plus_ℕ r k))
      go s t = (
        suc (plus_ℕ s.0 t.0),
        λ k. let e : plus_ℕ (suc (plus_ℕ s.0 t.0)) k
            ≡ suc (plus_ℕ (plus_ℕ s.0 t.0) k) = omega arith in subst
            (λ m. suc (times_ℕ (plus_ℕ m a) (suc c)) ≤ R m) (sym e)
            (step (plus_ℕ (plus_ℕ s.0 t.0) k)
            (let z : plus_ℕ s.0 (plus_ℕ t.0 k)
            ≡ plus_ℕ (plus_ℕ s.0 t.0) k = omega arith in subst
            (λ m. suc (times_ℕ (plus_ℕ m (suc a)) c) ≤ R m) z (s.1 (plus_ℕ t.0 k)))
            (let z : plus_ℕ t.0 (plus_ℕ s.0 k)
            ≡ plus_ℕ (plus_ℕ s.0 t.0) k = omega arith in subst (λ m. plus_ℕ m (suc a) ≤ R m) z
            (t.1 (plus_ℕ s.0 k)))),
      )
        where
          step : (m : ℕ) → suc (times_ℕ (plus_ℕ m (suc a)) c) ≤ R m → plus_ℕ m (suc a) ≤ R m
              → suc (times_ℕ (plus_ℕ (suc m) a) (suc c)) ≤ R (suc m)
          step m h i = let d : plus_ℕ (R m) (R m) ≤ R (suc m) = doubles m in let e : plus_ℕ (suc m)
              a ≡ plus_ℕ m (suc a) = omega arith in
              let z : times_ℕ (plus_ℕ m (suc a)) (suc c)
              ≡ plus_ℕ (plus_ℕ m (suc a)) (times_ℕ (plus_ℕ m (suc a)) c) = omega arith in subst
              (λ v. suc (times_ℕ v (suc c)) ≤ R (suc m)) (sym e) (omega (arith, d, z, h, i))

  reach-plus : (r a J : ℕ) → reach (suc q) (plus_ℕ r a) J ≡ reach (suc q) r (reach (suc q) a J)
  reach-plus zero a J = let e : plus_ℕ 0 a ≡ a = omega arith in ap (λ m. reach (suc q) m J) e
  reach-plus (suc r) a J = let e : plus_ℕ (suc r) a
      ≡ suc (plus_ℕ r a) = omega arith in ap (λ m. reach (suc q) m J) e
      ∙ ap (times_ℕ (suc q)) (reach-plus r a J)

  reach-strict : (r i j : ℕ) → i < j → reach (suc q) r i < reach (suc q) r j
  reach-strict zero i j h = h
  reach-strict (suc r) i j h = go (reach (suc q) r i) (reach (suc q) r j) (reach-strict r i j h)
    where
      go : (m n : ℕ) → m < n → times_ℕ (suc q) m < times_ℕ (suc q) n
      go m n k = let a : times_ℕ (suc q) (suc m) ≤ times_ℕ (suc q) n = times-mono (suc q) (suc m) n
          (omega arith) in let b : times_ℕ (suc q) (suc m)
          ≡ plus_ℕ (suc q) (times_ℕ (suc q) m) = omega arith in omega (arith, a, b)

module _ (K : Field) (A : RingOps) (AL : IsCommRing A) (c : Chart K.ring A) (l : IsChart K.ring A c)
    (q : ℕ) (V : A.carrier → Type 0) (d : Poly K.ring)
    (nd : (polynomials K.ring).same d (polynomials K.ring).zero ≡ false)
    (carried : (w : A.carrier) → V w → InPowers c (A.mul (at_u c d) w))
    (closed : (w : A.carrier) → V w → V (power A w (suc q))) where
  infixl 70 ◌*◌
  open A use {mul as ◌*◌, carrier as C}

  abbrev P : Domain
  P = polynomial_domain K

  abbrev U : IsMap (polynomials K.ring) A (at_u c)
  U = at_u_map K A AL c l

  abbrev δ : C
  δ = at_u c d

  -- slow_growth
  pub slow_growth : (m : ℕ) (w : A.carrier) → V w → (j : ℕ) → j < reach (suc q) m 1
      → InPowers c (A.mul (power A (at_u c d) (times_ℕ m q)) (power A w j))
  slow_growth zero w v j h = let e : j ≡ 0 = omega arith in let z : times_ℕ 0 q
      ≡ 0 = omega arith in powers_at K A AL c l
      (sym (ap₂ (λ m i. power A δ m * power A w i) z e ∙ AL.mul_one A.one)) (powers_one K A AL c l)
  slow_growth (suc m) w v j h = powers_at K A AL c l whole
      (powers_mul K A AL c l _ _ (powers_mul K A AL c l _ _ (powers_at K A AL c l (map-power P.ring
      A (at_u c) U d (q - j0)) (powers_u K A AL c l (power P.ring d (q - j0))))
      (powers_power K A AL c l _ (carried w v) j0))
      (slow_growth m (power A w (suc q)) (closed w v) j1 small))
    where
      j0 : ℕ
      j0 = j % suc q

      j1 : ℕ
      j1 = j / suc q

      low : j0 < suc q
      low = mod-lt j (omega arith)

      split : plus_ℕ (times_ℕ (suc q) j1) j0 ≡ j
      split = div-add-mod j (suc q)

      small : j1 < reach (suc q) m 1
      small = pick (cases_lt j1 (reach (suc q) m 1))
        where
          pick : (j1 < reach (suc q) m 1) ⊎ (reach (suc q) m 1 ≤ j1) → j1 < reach (suc q) m 1
          pick (inl s) = s
          pick (inr s) = let a : times_ℕ (suc q) (reach (suc q) m 1) ≤ times_ℕ (suc q)
              j1 = times-mono (suc q) (reach (suc q) m 1) j1 s in absurd
              (omega (arith, a, h, split))

      whole : power A δ (q - j0) * power A (δ * w) j0 *
          (power A δ (times_ℕ m q) * power A (power A w (suc q)) j1)
          ≡ power A δ (times_ℕ (suc m) q) * power A w j
      whole = ap₂ (λ s t. power A δ (q - j0) * s * (power A δ (times_ℕ m q) * t))
          (power-mul A AL δ w j0) (power-power A AL w (suc q) j1)
          ∙ gather (power A δ (q - j0)) (power A δ j0) (power A w j0) (power A δ (times_ℕ m q))
          (power A w (times_ℕ j1 (suc q)))
          ∙ ap₂ A.mul (ap (λ t. t * power A δ (times_ℕ m q)) (sym (power-add A AL δ (q - j0) j0))
          ∙ sym (power-add A AL δ (plus_ℕ (q - j0) j0) (times_ℕ m q))
          ∙ (let e : plus_ℕ (plus_ℕ (q - j0) j0) (times_ℕ m q)
          ≡ times_ℕ (suc m) q = omega (arith, low) in ap (power A δ) e))
          (sym (power-add A AL w j0 (times_ℕ j1 (suc q)))
          ∙ (let z : times_ℕ j1 (suc q) ≡ times_ℕ (suc q) j1 = omega arith in let e : plus_ℕ j0
          (times_ℕ j1 (suc q)) ≡ j = omega (arith, split, z) in ap (power A w) e))
        where
          gather : (a b w e v : C) → a * (b * w) * (e * v) ≡ a * b * e * (w * v)
          gather a b w e v = ap (λ t. t * (e * v)) (sym (AL.mul_assoc a b w))
              ∙ ring4 A AL (λ x w e v. (x ⊗ w) ⊗ (e ⊗ v)) (λ x w e v. (x ⊗ e) ⊗ (w ⊗ v)) refl
              (a * b) w e v

  -- the size of a power
  power_size : (k : ℕ) → size K.ring (power P.ring d k) ≤ suc (times_ℕ k (pred (size K.ring d)))
  power_size zero = let s : size K.ring P.one
      ≡ 1 = one_size K in let z : times_ℕ 0 (pred (size K.ring d))
      ≡ 0 = omega arith in omega (arith, s, z)
  power_size (suc k) = go (power_size k) (nonzero_size K d nd)
    where
      go : size K.ring (power P.ring d k) ≤ suc (times_ℕ k (pred (size K.ring d))) → (m : ℕ)
          × (size K.ring d ≡ suc m) → size K.ring (power P.ring d (suc k)) ≤ suc (times_ℕ (suc k)
          (pred (size K.ring d)))
      go h z = let y : pred (size K.ring d)
          ≡ z.0 = ap pred z.1 in let e : times_ℕ (suc k) (pred (size K.ring d))
          ≡ plus_ℕ (pred (size K.ring d)) (times_ℕ k (pred (size K.ring d))) = omega arith in
          let b : suc z.0 ≡ size K.ring d = sym z.1 in
          size-mul-le K.ring K.laws K.tests d (power P.ring d k)
          (suc (times_ℕ (suc k) (pred (size K.ring d)))) (omega (arith, h, e, y, b))

  module _ (more : 0 < q) (char : HasCharacteristic A (suc q))
      (charP : HasCharacteristic (polynomials K.ring) (suc q)) (roots : HasRoots K.ring (suc q))
      (free : IsFree K A AL c l q char roots)
      (b : A.carrier) (d' : Poly K.ring) (hb : InPowers c b)
      (nd' : (polynomials K.ring).same d' (polynomials K.ring).zero ≡ false)
      (product : A.mul b (different K A AL c l) ≡ at_u c d') where
    abbrev D : C
    D = different K A AL c l

    -- closed_integral
    pub closed_integral : (w : A.carrier) → V w → IsIntegral c w
    closed_integral w v = conductor_back K A AL c l q more char charP roots free b d' hb nd' product
        w at
      where
        at : (J : ℕ) → InPowers c (D * power A w J)
        at J = go (beats_line q more (times_ℕ q (pred (size K.ring d))) (suc J))
          where
            go : (r : ℕ) × ((k : ℕ) → suc (times_ℕ (plus_ℕ (plus_ℕ r k) (suc J)) (times_ℕ q (pred
                (size K.ring d)))) ≤ R q more (plus_ℕ r k)) → InPowers c (D * power A w J)
            go s = root_descent K A AL c l q more char charP roots free r J w g
                (power_nonzero P d nd (times_ℕ m q)) small into J (omega arith)
              where
                r : ℕ
                r = plus_ℕ s.0 0

                m : ℕ
                m = plus_ℕ r (suc J)

                g : Poly K.ring
                g = power P.ring d (times_ℕ m q)

                small : size K.ring g ≤ reach (suc q) r 1
                small = let h : size K.ring g ≤ suc
                    (times_ℕ (times_ℕ m q) (pred (size K.ring d))) = power_size (times_ℕ m q) in
                    let e : times_ℕ (times_ℕ m q) (pred (size K.ring d))
                    ≡ times_ℕ m (times_ℕ q (pred (size K.ring d))) = times-assoc m q
                    (pred (size K.ring d)) in let t : suc
                    (times_ℕ m (times_ℕ q (pred (size K.ring d)))) ≤ reach (suc q) r 1 = s.1 0
                    in omega (arith, h, e, t)

                into : (j : ℕ) → j ≤ reach (suc q) r J → InPowers c (at_u c g * (D * power A w j))
                into j h = powers_at K A AL c l
                    (ap (λ t. D * (t * power A w j))
                    (sym (map-power P.ring A (at_u c) U d (times_ℕ m q)))
                    ∙ ring3 A AL (λ d g w. d ⊗ (g ⊗ w)) (λ d g w. g ⊗ (d ⊗ w)) refl D (at_u c g)
                    (power A w j))
                    (powers_mul K A AL c l D _ (powers_different K A AL c l)
                    (slow_growth m w v j below))
                  where
                    below : j < reach (suc q) m 1
                    below = let a : suc J ≤ reach (suc q) (suc J) 1 = (reach-far q (suc J) more).0
                        in let b : reach (suc q) r J < reach (suc q) r
                        (reach (suc q) (suc J) 1) = reach-strict q more r J
                        (reach (suc q) (suc J) 1) (omega (arith, a)) in
                        let e : reach (suc q) m 1 ≡ reach (suc q) r (reach (suc q) (suc J)
                        1) = reach-plus q more r (suc J) 1 in omega (arith, h, b, e)
