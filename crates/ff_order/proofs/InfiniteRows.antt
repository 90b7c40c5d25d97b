-- In the chart at t = 1/u: a power of t that an element of the power order makes from the
-- different.
use Rattle.std.proofs.Common.{◌≡◌, ℕ, zero, suc, pred, ◌+◌ as plus_ℕ, ◌-◌, ◌*◌ as times_ℕ, ◌<◌, ◌≤◌}
use Rattle.std.proofs.Common.{◌⊎◌, inl, inr, false, refl, sym, ◌∙◌, ap, ap₂, arith}
use Rattle.std.proofs.lemmas.Bool.{cases_lt}
use Rattle.ff_theory.specs.Ring.{RingOps, IsCommRing, power}
use Rattle.ff_theory.specs.Lawful.{Domain, Field}
use Rattle.ff_theory.specs.Map.{IsMap}
use Rattle.ff_theory.specs.Sum.{sum_below}
use Rattle.ff_theory.specs.Poly.{coeff, Poly, polynomials}
use Rattle.ff_theory.specs.Division.{size, IsDivision}
use Rattle.ff_theory.specs.Planes.{Plane}
use Rattle.ff_theory.specs.Monomial.{variable}
use Rattle.ff_theory.specs.Reversal.{reversal, Fits}
use Rattle.ff_theory.proofs.Solver.{◌⊕◌, ◌⊗◌, unit, ring1, ring6}
use Rattle.ff_theory.proofs.Powers.{power-add, power-mul}
use Rattle.ff_theory.proofs.Frobenius.{power-power}
use Rattle.ff_theory.proofs.FrobeniusPoly.{map-power}
use Rattle.ff_theory.proofs.Sums.{sum-ext, sum-add, sum-mul}
use Rattle.ff_theory.proofs.Division.{top_nonzero, size-mul, zero_from}
use Rattle.ff_theory.proofs.PolyMap.{polynomial_domain, same_false, size_nonzero, one_size}
use Rattle.ff_theory.proofs.PolyMap.{zero_size}
use Rattle.ff_quotients.proofs.QuotientResidues.{inverted_b, modulus_at}
use Rattle.ff_charts.specs.Chart.{Chart, at_u, at_theta, InPowers, IsChart}
use Rattle.ff_charts.specs.FieldCharts.{inverted}
use Rattle.ff_charts.specs.Lattice.{IsResidue}
use Rattle.ff_charts.proofs.Chart.{at_u_map}
use Rattle.ff_charts.proofs.Reversal.{power-inverse, reversal_at, reversal_size}
use Rattle.ff_charts.proofs.Rows.{polynomial_of, value_of_listed}
use Rattle.ff_charts.proofs.InvertedChart.{to_t, theta_sum, theta_sum_t, at_variable}
use Rattle.ff_charts.proofs.InvertedChart.{variable_size, inverted_is_chart}
use Rattle.ff_conductor.proofs.Conductor.{different}
use Rattle.ff_conductor.proofs.InvertedDifferent.{inverted_different}

module _ (K : Field) (A : RingOps) (AL : IsCommRing A) (c : Chart K.ring A) (l : IsChart K.ring A c)
    (t : A.carrier) (tu : A.mul t c.u ≡ A.one) (e : ℕ) (fits : Fits K.ring c.degree c.equation e)
    (n : ℕ) (has : c.degree ≡ suc n) (d : Poly K.ring) (k : ℕ) (hd : size K.ring d ≡ suc k)
    (N : Plane K) (r : ℕ) (few : size (polynomials K.ring) N ≤ r) (within : r ≤ c.degree)
    (j : ℕ) (Q R : ℕ → Poly K.ring)
    (division : (i : ℕ) → i < r → IsDivision K.ring ((polynomials K.ring).mul
    (power (polynomials K.ring) (variable K.ring) (times_ℕ (plus_ℕ n i) e))
    (coeff (polynomials K.ring) N.coeffs i)) ((polynomials K.ring).mul (variable K.ring) d)
    (Q i) (R i))
    (small : (i : ℕ) → i < r → size K.ring (Q i) ≤ suc j) where
  infixl 60 ◌+◌
  infixl 70 ◌*◌
  open A use {add as ◌+◌, mul as ◌*◌, carrier as C}

  abbrev E : C
  E = power A t e

  abbrev U : C
  U = power A c.u e

  UE : (i : ℕ) → power A U i * power A E i ≡ A.one
  UE i = power-inverse A AL U E (AL.mul_comm E U ∙ power-inverse A AL c.u t tu e) i

  nd : (polynomials K.ring).same d (polynomials K.ring).zero ≡ false
  nd = size_nonzero K d k hd

  -- the product with the different at t is a power of t
  pub quotients_product : A.mul (at_theta c N) (different K A AL c l) ≡ at_u c d
      → A.mul (inverted_b K A AL c l t tu e fits n d k hd N r few within j Q R division small)
      (different K A AL (inverted c t e) (inverted_is_chart K A AL c l t tu e fits))
      ≡ at_u (inverted c t e) (power (polynomials K.ring) (variable K.ring) (suc j))
  quotients_product product = ap (A.mul (inverted_b K A AL c l t tu e fits n d k hd N r few within
      j Q R division small))
      (inverted_different K A AL c l t tu e fits n has)
      ∙ ring6 A AL (λ t u i b e x. (t ⊗ (u ⊗ (i ⊗ b))) ⊗ (e ⊗ x))
      (λ t u i b e x. t ⊗ (u ⊗ e) ⊗ (i ⊗ (b ⊗ x))) refl (power A t (suc j)) (power A U n)
      (l.inverse d) (at_theta c N) (power A E n) (different K A AL c l)
      ∙ ap₂ (λ p q. power A t (suc j) * p * (l.inverse d * q)) (UE n) product
      ∙ ap (A.mul (power A t (suc j) * A.one)) (l.inverts d nd)
      ∙ ring1 A AL (λ t. (t ⊗ unit) ⊗ unit) (λ t. t) refl (power A t (suc j)) ∙ sym (modulus_at K A
      AL c l t tu e fits n d k hd N r few within j Q R division small)
