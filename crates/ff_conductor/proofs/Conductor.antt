-- The conductor: the derivative of the equation at theta carries each integral element into the
-- power order.
use Rattle.std.proofs.Common.{◌≡◌, ℕ, zero, suc, ◌+◌ as plus_ℕ, ◌*◌ as times_ℕ, ◌<◌, ◌≤◌, refl, sym}
use Rattle.std.proofs.Common.{◌∙◌, ap, ap₂, arith}
use Rattle.ff_theory.specs.Ring.{RingOps, IsCommRing, power}
use Rattle.ff_theory.specs.Lawful.{Domain, Field}
use Rattle.ff_theory.specs.Sum.{sum_below}
use Rattle.ff_theory.specs.Poly.{coeff, Poly, polynomials}
use Rattle.ff_theory.specs.Division.{size}
use Rattle.ff_theory.proofs.Solver.{◌⊕◌, ◌⊗◌, neg, nil, unit, ring1, ring3, ring4, add_cancel}
use Rattle.ff_theory.specs.Map.{IsMap}
use Rattle.ff_theory.proofs.Powers.{power-mul}
use Rattle.ff_theory.proofs.Frobenius.{HasCharacteristic, power-power}
use Rattle.ff_theory.proofs.FrobeniusPoly.{map-power}
use Rattle.ff_theory.proofs.Sums.{sum-ext, sum-add, sum-mul, sum-swap}
use Rattle.ff_theory.proofs.Series.{series}
use Rattle.ff_theory.proofs.Division.{x}
use Rattle.ff_theory.proofs.PolyMap.{polynomial_domain}
use Rattle.ff_theory.specs.Planes.{planes, Plane, row_of}
use Rattle.ff_charts.specs.Chart.{Chart, at_u, at_theta, InPowers, IsChart}
use Rattle.ff_charts.proofs.Rows.{polynomial_of, value_of_listed}
use Rattle.ff_charts.proofs.Chart.{at_u_map, at_theta_map, row_times, cancel_u, powers_plane}
use Rattle.ff_charts.proofs.Chart.{powers_at, powers_u, powers_zero, powers_one, powers_mul}
use Rattle.ff_charts.proofs.Chart.{powers_add, powers_over}
use Rattle.ff_charts.proofs.FiniteChart.{power_nonzero}
use Rattle.ff_charts.proofs.InvertedChart.{at_x}
use Rattle.ff_conductor.proofs.Trace.{moved, derivative_at, moved_sum, power_moved_one}
use Rattle.ff_conductor.proofs.Trace.{trace_identity}
use Rattle.ff_conductor.proofs.PowerParts.{power-sums, power-minus, power-exchange, HasRoots, part}
use Rattle.ff_conductor.proofs.PowerParts.{split_p}

module _ (K : Field) (A : RingOps) (AL : IsCommRing A) (c : Chart K.ring A) (l : IsChart K.ring A c)
  where
    infixl 60 ◌+◌
    infixl 70 ◌*◌
    open A use {add as ◌+◌, mul as ◌*◌, neg as minus, carrier as C}

    abbrev P : Domain
    P = polynomial_domain K

    abbrev u : C
    u = c.u

    abbrev θ : C
    θ = c.theta

    abbrev U : IsMap (polynomials K.ring) A (at_u c)
    U = at_u_map K A AL c l

    abbrev V : IsMap (planes K) A (at_theta c)
    V = at_theta_map K A AL c l

    -- the derivative of the equation at theta
    unfoldable pub different : A.carrier
    different = derivative_at (polynomials K.ring) P.laws P.tests A AL (at_u c)
        (at_u_map K A AL c l)
        c.theta c.equation

    abbrev D : C
    D = different

    powers_sum : (n : ℕ) (f : ℕ → C) → ((i : ℕ) → InPowers c (f i)) → InPowers c (sum_below A n f)
    powers_sum zero f h = powers_zero K A AL c l
    powers_sum (suc n) f h = powers_add K A AL c l (sum_below A n f) (f n) (powers_sum n f h) (h n)

    pub powers_theta : InPowers c θ
    powers_theta = powers_at K A AL c l theta_is
        (powers_plane K A AL c l (x (polynomials K.ring) P.laws P.tests))
      where
        theta_is : at_theta c (x (polynomials K.ring) P.laws P.tests) ≡ θ
        theta_is = at_x (polynomials K.ring) P.laws P.tests A AL (at_u c) U θ

    pub powers_different : InPowers c different
    unfolding different derivative_at
    powers_different = powers_at K A AL c l
        (sym (moved_sum (polynomials K.ring) P.laws P.tests A AL (at_u c) U θ c.equation
        (size (polynomials K.ring) c.equation) (omega arith) 1))
        (powers_sum (size (polynomials K.ring) c.equation) _
        (λ i. powers_mul K A AL c l _ _
        (powers_u K A AL c l (coeff (polynomials K.ring) c.equation.coeffs i)) (one i)))
      where
        bottom : (i : ℕ) → InPowers c (power (series A) (moved (polynomials K.ring) P.laws P.tests A
            AL (at_u c) U θ) i zero)
        bottom zero = powers_one K A AL c l
        bottom (suc i) = powers_mul K A AL c l θ _ powers_theta (bottom i)

        one : (i : ℕ) → InPowers c (power (series A) (moved (polynomials K.ring) P.laws P.tests A AL
            (at_u c) U θ) i 1)
        one zero = powers_zero K A AL c l
        one (suc i) = powers_at K A AL c l
            (sym (power_moved_one (polynomials K.ring) P.laws P.tests A AL (at_u c) U θ i))
            (powers_add K A AL c l _ _ (powers_mul K A AL c l θ _ powers_theta (one i)) (bottom i))

    module _ (q : ℕ) (char : HasCharacteristic A (suc q)) (roots : HasRoots K.ring (suc q)) where
      abbrev p : ℕ
      p = suc q

      -- v_0^p + u*v_1^p + .. + u^(p-1)*v_(p-1)^p
      abbrev pub sum_of_powers : (ℕ → A.carrier) → A.carrier
      sum_of_powers v = sum_below A (suc q) (λ r. A.mul (power A c.u r) (power A (v r) (suc q)))

      -- such a sum of elements of the power order
      pub record IsPowerSum (a : A.carrier) : Type 0 where
        pub parts : ℕ → A.carrier
        pub in_powers : (r : ℕ) → InPowers c (parts r)
        pub sum : a ≡ sum_of_powers parts

      power_sum_plane : (N : Plane K) → IsPowerSum (power A D q * at_theta c N)
      unfolding different
      power_sum_plane N = record {
        parts = λ r. at_theta c (polynomial_of (polynomials K.ring) P.laws P.tests n (λ i. h i r));
        in_powers = λ r. powers_plane K A AL c l _;
        sum = trace_identity (polynomials K.ring) P.laws P.tests A AL (at_u c) U θ q char c.equation
            N
            n l.root (enough n)
            ∙ sum-ext A AL n _ (λ i. sum_below A p
            (λ r. power A u r * power A (at_u c (h i r) * power A θ i) p)) (λ i s. term i)
            ∙ sum-swap A AL n p (λ i r. power A u r * power A (at_u c (h i r) * power A θ i) p)
            ∙ sum-ext A AL p _ _ (λ r s. sum-mul A AL n (power A u r) _
            ∙ ap (λ t. power A u r * t) (sym (power-sums A AL p char n (λ i. at_u c (h i r) *
            power A θ i))
            ∙ ap (λ t. power A t p) (sym (value_of_listed (polynomials K.ring) P.laws P.tests A AL
            (at_u c) U.on_zero θ n (λ i. h i r)))));
      }
        where
          H : Plane K
          H = (planes K).mul (power (planes K) c.equation q) N

          n : ℕ
          n = size (polynomials K.ring) H

          enough : (m : ℕ) → m ≤ times_ℕ m p
          enough m = let e : times_ℕ m (suc q)
              ≡ plus_ℕ m (times_ℕ m q) = omega arith in omega (arith, e)

          g : ℕ → Poly K.ring
          g i = coeff (polynomials K.ring) H.coeffs (plus_ℕ (times_ℕ i p) q)

          h : ℕ → ℕ → Poly K.ring
          h i r = part K q roots (g i) r

          term : (i : ℕ) → at_u c (g i) * power A (power A θ p) i
              ≡ sum_below A p (λ r. power A u r * power A (at_u c (h i r) * power A θ i) p)
          term i = ap₂ A.mul (split_p K q roots A AL char c.constant l.constants u (g i))
              (power-exchange A AL p char θ i) ∙ AL.mul_comm _ _
              ∙ sym (sum-mul A AL p (power A (power A θ i) p) _)
              ∙ sum-ext A AL p _ _ (λ r s. ring3 A AL (λ t w h. t ⊗ (w ⊗ h)) (λ t w h. w ⊗ (h ⊗ t))
              refl (power A (power A θ i) p) (power A u r) (power A (at_u c (h i r)) p)
              ∙ ap (λ t. power A u r * t) (sym (power-mul A AL (at_u c (h i r)) (power A θ i) p)))

      -- power_sum_form
      pub power_sum : (a : A.carrier) → InPowers c a → IsPowerSum (A.mul (power A different q) a)
      power_sum a h = record {
        parts = v;
        in_powers = λ r. powers_over K A AL c l h.unit h.is_unit (v r)
            (powers_at K A AL c l (sym (back r)) (s.in_powers r));
        sum = cancel_u K A AL c l (power P.ring h.unit p)
            (power_nonzero P h.unit (l.unit_nonzero h.unit h.is_unit) p) _ _ (left ∙ s.sum ∙ right);
      }
        where
          σ : C
          σ = at_u c h.unit

          N : Plane K
          N = (planes K).mul (row_of K.ring (power P.ring h.unit q)) h.nums

          s : IsPowerSum (power A D q * at_theta c N)
          s = power_sum_plane N

          v : ℕ → C
          v r = l.inverse h.unit * s.parts r

          back : (r : ℕ) → σ * v r ≡ s.parts r
          back r = ring3 A AL (λ s i v. s ⊗ (i ⊗ v)) (λ s i v. (i ⊗ s) ⊗ v) refl σ
              (l.inverse h.unit)
              (s.parts r) ∙ ap (λ t. t * s.parts r)
              (l.inverts h.unit (l.unit_nonzero h.unit h.is_unit))
              ∙ ring1 A AL (λ v. unit ⊗ v) (λ v. v) refl (s.parts r)

          left : at_u c (power P.ring h.unit p) * (power A D q * a) ≡ power A D q * at_theta c N
          left = ap (λ t. t * (power A D q * a)) (U.on_mul h.unit (power P.ring h.unit q))
              ∙ ring4 A AL (λ s t d a. (s ⊗ t) ⊗ (d ⊗ a)) (λ s t d a. d ⊗ (t ⊗ (s ⊗ a))) refl σ
              (at_u c (power P.ring h.unit q)) (power A D q) a
              ∙ ap (λ t. power A D q * (at_u c (power P.ring h.unit q) * t)) h.clears
              ∙ ap (λ t. power A D q * t) (sym (row_times K A AL c l (power P.ring h.unit q)
              h.nums))

          right : sum_of_powers s.parts ≡ at_u c (power P.ring h.unit p) * sum_of_powers v
          right = sum-ext A AL p _ (λ r. at_u c (power P.ring h.unit p) * (power A u r * power A (v
              r)
              p)) (λ r w. ap (λ t. power A u r * power A t p) (sym (back r))
              ∙ ap (λ t. power A u r * t) (power-mul A AL σ (v r) p)
              ∙ ring3 A AL (λ w s v. w ⊗ (s ⊗ v)) (λ w s v. s ⊗ (w ⊗ v)) refl (power A u r)
              (power A σ p) (power A (v r) p)
              ∙ ap (λ t. t * (power A u r * power A (v r) p))
              (sym (map-power P.ring A (at_u c) U h.unit p)))
              ∙ sum-mul A AL p (at_u c (power P.ring h.unit p)) _

      -- power_sum_unique, which holds where the derivative divides a polynomial in u that is not 0
      abbrev pub IsFree : Type 0
      IsFree = (z : ℕ → A.carrier) → sum_of_powers z ≡ A.zero → (r : ℕ) → r < suc q → z r ≡ A.zero

      module _ (free : IsFree) where
        pub sum_of_powers_one : (v w : ℕ → A.carrier) → sum_of_powers v ≡ sum_of_powers w → (r : ℕ)
            → r < suc q → v r ≡ w r
        sum_of_powers_one v w e r s = add_cancel A AL (v r) (w r) (minus (w r))
            (free (λ r. v r + minus (w r)) difference r s ∙ sym (AL.add_neg (w r)))
          where
            difference : sum_of_powers (λ r. v r + minus (w r)) ≡ A.zero
            difference = sum-ext A AL p _ (λ r. power A u r * power A (v r) p + minus A.one * (power
                A
                u r * power A (w r) p)) (λ r s. ap (λ t. power A u r * t) (power-minus A AL p char
                (v
                r) (w r))
                ∙ ring3 A AL (λ u v w. u ⊗ (v ⊕ neg w)) (λ u v w. u ⊗ v ⊕ neg unit ⊗ (u ⊗ w)) refl
                (power A u r) (power A (v r) p) (power A (w r) p))
                ∙ sum-add A AL p _ _ ∙ ap (λ t. sum_of_powers v + t)
                (sum-mul A AL p (minus A.one) _)
                ∙ ap (λ t. t + minus A.one * sum_of_powers w) e
                ∙ ring1 A AL (λ s. s ⊕ neg unit ⊗ s) (λ s. nil) refl (sum_of_powers w)

        pub root_step : (g : Poly K.ring) (s : A.carrier) (j : ℕ)
            → InPowers c (A.mul (at_u c g) (A.mul different (power A s (times_ℕ (suc q) j))))
            → (r : ℕ) → r < suc q → InPowers c (A.mul (at_u c (part K q roots g r)) (A.mul different
            (power A s j)))
        root_step g s j h r m = powers_at K A AL c l
            (sym (sum_of_powers_one w f.parts (sym sums ∙ f.sum) r m)) (f.in_powers r)
          where
            f : IsPowerSum (power A D q * (at_u c g * (D * power A s (times_ℕ p j))))
            f = power_sum _ h

            w : ℕ → C
            w r = at_u c (part K q roots g r) * (D * power A s j)

            sums : power A D q * (at_u c g * (D * power A s (times_ℕ p j))) ≡ sum_of_powers w
            sums = ring4 A AL (λ e g d s. e ⊗ (g ⊗ (d ⊗ s))) (λ e g d s. ((d ⊗ e) ⊗ s) ⊗ g) refl
                (power A D q) (at_u c g) D (power A s (times_ℕ p j))
                ∙ ap₂ A.mul (ap (λ t. power A D p * t) (sym (power-power A AL s j p))
                ∙ sym (power-mul A AL D (power A s j) p))
                (split_p K q roots A AL char c.constant l.constants u g)
                ∙ sym (sum-mul A AL p (power A (D * power A s j) p) _)
                ∙ sum-ext A AL p _ _ (λ r m. ring3 A AL (λ d u h. d ⊗ (u ⊗ h))
                (λ d u h. u ⊗ (h ⊗ d))
                refl (power A (D * power A s j) p) (power A u r)
                (power A (at_u c (part K q roots g r)) p)
                ∙ ap (λ t. power A u r * t) (sym (power-mul A AL (at_u c (part K q roots g r)) (D *
                power A s j) p)))
