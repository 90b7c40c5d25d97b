-- A power of t that b' times the different of the chart at t = 1/u makes, from a multiple of the
-- different of the chart at u.
use Rattle.std.proofs.Common.{◌≡◌, ℕ, zero, suc, ◌-◌, ◌+◌ as plus_ℕ, ◌*◌ as times_ℕ, ◌<◌, ◌≤◌}
use Rattle.std.proofs.Common.{false, refl, sym, ◌∙◌, ap, ap₂, arith}
use Rattle.ff_theory.specs.Ring.{RingOps, IsCommRing, power}
use Rattle.ff_theory.specs.Lawful.{Domain, Field}
use Rattle.ff_theory.specs.Map.{IsMap}
use Rattle.ff_theory.specs.Poly.{coeff, Poly, polynomials}
use Rattle.ff_theory.specs.Division.{size}
use Rattle.ff_theory.specs.Planes.{Plane}
use Rattle.ff_theory.specs.Monomial.{variable}
use Rattle.ff_theory.specs.Reversal.{reversal, Fits}
use Rattle.ff_theory.proofs.Solver.{◌⊗◌, nil, unit, ring1, ring3, ring4, ring6}
use Rattle.ff_theory.proofs.Powers.{power-add, power-mul}
use Rattle.ff_theory.proofs.Frobenius.{power-power}
use Rattle.ff_theory.proofs.FrobeniusPoly.{map-power}
use Rattle.ff_theory.proofs.Sums.{sum-ext, sum-mul}
use Rattle.ff_theory.proofs.Gcd.{no_size}
use Rattle.ff_theory.proofs.Division.{top_nonzero}
use Rattle.ff_theory.proofs.PolyMap.{polynomial_domain, same_false, size_nonzero}
use Rattle.ff_charts.specs.Chart.{Chart, at_u, at_theta, InPowers, IsChart}
use Rattle.ff_charts.specs.FieldCharts.{inverted}
use Rattle.ff_charts.proofs.Chart.{at_u_map}
use Rattle.ff_charts.proofs.Reversal.{power-inverse, reversal_at}
use Rattle.ff_charts.proofs.Rows.{polynomial_of, value_of_listed}
use Rattle.ff_charts.proofs.InvertedChart.{to_t, theta_sum, at_variable, inverted_is_chart}
use Rattle.ff_conductor.proofs.Conductor.{different}
use Rattle.ff_conductor.proofs.InvertedDifferent.{inverted_different}

module _ (K : Field) (A : RingOps) (AL : IsCommRing A) (c : Chart K.ring A) (l : IsChart K.ring A c)
    (t : A.carrier) (tu : A.mul t c.u ≡ A.one) (e : ℕ) (fits : Fits K.ring c.degree c.equation e)
    (n : ℕ) (has : c.degree ≡ suc n) (d : Poly K.ring) (k : ℕ) (hd : size K.ring d ≡ suc k)
    (N : Plane K) (few : size (polynomials K.ring) N ≤ c.degree)
    (product : A.mul (at_theta c N) (different K A AL c l) ≡ at_u c d) (m : ℕ)
    (small : (i : ℕ) → i < c.degree → 0 < size K.ring (coeff (polynomials K.ring) N.coeffs i)
    → plus_ℕ (size K.ring (coeff (polynomials K.ring) N.coeffs i)) (times_ℕ (plus_ℕ n i) e)
    ≤ suc (plus_ℕ m k)) where
  infixl 70 ◌*◌
  open A use {mul as ◌*◌, carrier as C}

  abbrev P : Domain
  P = polynomial_domain K

  abbrev B : Chart K.ring A
  B = inverted c t e

  BL : IsChart K.ring A (inverted c t e)
  BL = inverted_is_chart K A AL c l t tu e fits

  abbrev E : C
  E = power A t e

  abbrev U : C
  U = power A c.u e

  abbrev row_at : ℕ → Poly K.ring
  row_at i = coeff (polynomials K.ring) N.coeffs i

  map : IsMap (polynomials K.ring) A (at_u c)
  map = at_u_map K A AL c l

  map_t : IsMap (polynomials K.ring) A (at_u (inverted c t e))
  map_t = at_u_map K A AL B BL

  UE : power A U n * power A E n ≡ A.one
  UE = power-inverse A AL U E (AL.mul_comm E U ∙ power-inverse A AL c.u t tu e) n

  nd : (polynomials K.ring).same d (polynomials K.ring).zero ≡ false
  nd = size_nonzero K d k hd

  -- b / d, times powers of t and u
  pub inverted_b : A.carrier
  inverted_b = power A t m * (power A U n * (l.inverse d * at_theta c N))

  pub inverted_product : A.mul inverted_b
      (different K A AL (inverted c t e) (inverted_is_chart K A AL c l t tu e fits))
      ≡ at_u (inverted c t e) (power (polynomials K.ring) (variable K.ring) m)
  unfolding inverted_b
  inverted_product = ap (A.mul inverted_b) (inverted_different K A AL c l t tu e fits n has)
      ∙ ring6 A AL (λ t u i b e x. (t ⊗ (u ⊗ (i ⊗ b))) ⊗ (e ⊗ x))
      (λ t u i b e x. t ⊗ (u ⊗ e) ⊗ (i ⊗ (b ⊗ x))) refl (power A t m) (power A U n) (l.inverse d)
      (at_theta c N) (power A E n) (different K A AL c l)
      ∙ ap₂ (λ p q. power A t m * p * (l.inverse d * q)) UE product
      ∙ ap (A.mul (power A t m * A.one)) (l.inverts d nd)
      ∙ ring1 A AL (λ t. (t ⊗ unit) ⊗ unit) (λ t. t) refl (power A t m)
      ∙ sym (map-power (polynomials K.ring) A (at_u B) map_t (variable K.ring) m
      ∙ ap (λ s. power A s m) (at_variable K A AL c l t tu e fits t))

  -- t^(m + k) * u^(e * n) is t^j * t^(e * i), for j = m + k - e * (n + i)
  abbrev height : ℕ → ℕ
  height i = plus_ℕ m k - times_ℕ (plus_ℕ n i) e

  shift : (i : ℕ) → times_ℕ (plus_ℕ n i) e ≤ plus_ℕ m k
      → power A t (plus_ℕ m k) * power A U n ≡ power A t (height i) * power A E i
  shift i h = ap (λ j. power A t j * power A U n)
      (let z : plus_ℕ m k ≡ plus_ℕ (height i) (times_ℕ (plus_ℕ n i) e) = omega (arith, h) in z)
      ∙ ap (λ s. s * power A U n) (power-add A AL t (height i) (times_ℕ (plus_ℕ n i) e)
      ∙ ap (A.mul (power A t (height i))) (sym (power-power A AL t e (plus_ℕ n i))
      ∙ power-add A AL E n i))
      ∙ ring4 A AL (λ h a b u. (h ⊗ (a ⊗ b)) ⊗ u) (λ h a b u. (h ⊗ b) ⊗ (u ⊗ a)) refl
      (power A t (height i)) (power A E n) (power A E i) (power A U n)
      ∙ ap (A.mul (power A t (height i) * power A E i)) UE ∙ AL.mul_one _

  abbrev lifted : ℕ → Poly K.ring
  lifted i = reversal K.ring (height i) (row_at i)

  term : (i : ℕ) → i < c.degree
      → (power A t (plus_ℕ m k) * power A U n) * (at_u c (row_at i) * power A c.theta i)
      ≡ at_u B (lifted i) * power A (A.mul E c.theta) i
  term i q = go (size K.ring (row_at i)) refl
    where
      fitting : size K.ring (row_at i) ≤ suc (height i)
          → at_u B (lifted i) * power A (A.mul E c.theta) i
          ≡ (power A t (height i) * power A E i) * (at_u c (row_at i) * power A c.theta i)
      fitting h = ap₂ A.mul (sym (to_t K A AL c l t tu e fits (height i) (row_at i) h))
          (power-mul A AL E c.theta i)
          ∙ ring4 A AL (λ t r e s. (t ⊗ r) ⊗ (e ⊗ s)) (λ t r e s. (t ⊗ e) ⊗ (r ⊗ s)) refl
          (power A t (height i)) (at_u c (row_at i)) (power A E i) (power A c.theta i)

      none : at_u c (row_at i) ≡ A.zero
          → (power A t (plus_ℕ m k) * power A U n) * (at_u c (row_at i) * power A c.theta i)
          ≡ (power A t (height i) * power A E i) * (at_u c (row_at i) * power A c.theta i)
      none z = ap (λ r. (power A t (plus_ℕ m k) * power A U n) * (r * power A c.theta i)) z
          ∙ ring3 A AL (λ a b s. a ⊗ (nil ⊗ s)) (λ a b s. b ⊗ (nil ⊗ s)) refl
          (power A t (plus_ℕ m k) * power A U n) (power A t (height i) * power A E i)
          (power A c.theta i)
          ∙ ap (λ r. (power A t (height i) * power A E i) * (r * power A c.theta i)) (sym z)

      go : (s : ℕ) → size K.ring (row_at i) ≡ s
          → (power A t (plus_ℕ m k) * power A U n) * (at_u c (row_at i) * power A c.theta i)
          ≡ at_u B (lifted i) * power A (A.mul E c.theta) i
      go zero h = none (ap (at_u c) (no_size K (row_at i)
          h)
          ∙ map.on_zero) ∙ sym (fitting (omega (arith, h)))
      go (suc s) h = let bound : plus_ℕ (size K.ring (row_at i)) (times_ℕ (plus_ℕ n i) e)
          ≤ suc (plus_ℕ m k) = small i q (omega (arith, h)) in
          ap (λ p. p * (at_u c (row_at i) * power A c.theta i)) (shift i (omega (arith, bound, h)))
          ∙ sym (fitting (omega (arith, bound, h)))

  -- it is in the power order
  pub inverted_in_powers : InPowers (inverted c t e) inverted_b
  unfolding inverted_b
  inverted_in_powers = record {
    unit = reversal K.ring k d;
    is_unit = ap (λ a. K.same a K.zero)
        (reversal_at K k d 0 (omega arith)
        ∙ (let z : k - 0 ≡ k = omega arith in ap (coeff K.ring d.coeffs) z))
        ∙ same_false K.ring K.tests _ K.zero (λ z. top_nonzero K.ring K.laws K.tests d k hd z);
    nums = polynomial_of (polynomials K.ring) P.laws P.tests c.degree lifted;
    clears = ap (λ p. p * inverted_b) (sym (to_t K A AL c l t tu e fits k d (omega (arith, hd))))
        ∙ ring6 A AL (λ s d t u i b. (s ⊗ d) ⊗ (t ⊗ (u ⊗ (i ⊗ b))))
        (λ s d t u i b. ((t ⊗ s) ⊗ u) ⊗ ((i ⊗ d) ⊗ b)) refl (power A t k) (at_u c d) (power A t m)
        (power A U n) (l.inverse d) (at_theta c N)
        ∙ ap₂ (λ p q. (p * power A U n) * (q * at_theta c N)) (sym (power-add A AL t m k))
        (l.inverts d nd)
        ∙ ap (A.mul (power A t (plus_ℕ m k) * power A U n))
        (ring1 A AL (λ b. unit ⊗ b) (λ b. b) refl (at_theta c N)
        ∙ theta_sum K A AL c l t tu e fits N c.degree few)
        ∙ sym (sum-mul A AL c.degree (power A t (plus_ℕ m k) * power A U n) _)
        ∙ sum-ext A AL c.degree _ _ term
        ∙ sym (value_of_listed (polynomials K.ring) P.laws P.tests A AL (at_u B) map_t.on_zero
        (A.mul E c.theta) c.degree lifted);
  }
