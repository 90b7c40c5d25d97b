-- The derivative of the equation at theta, in a chart at u and in the one at t = 1/u.
use Rattle.std.proofs.Common.{◌≡◌, ℕ, suc, ◌-◌, ◌*◌ as times_ℕ, ◌<◌, refl, sym, ◌∙◌, ap, ap₂, arith}
use Rattle.ff_theory.specs.Ring.{RingOps, IsCommRing, power, multiple}
use Rattle.ff_theory.specs.Lawful.{Domain, Field}
use Rattle.ff_theory.specs.Poly.{coeff, Poly, polynomials}
use Rattle.ff_theory.specs.Division.{size}
use Rattle.ff_theory.proofs.Solver.{◌⊗◌, ring4}
use Rattle.ff_theory.proofs.Powers.{power-mul}
use Rattle.ff_theory.proofs.Frobenius.{multiple-mul, power-power}
use Rattle.ff_theory.proofs.Sums.{sum-ext, sum-mul}
use Rattle.ff_theory.proofs.PolyMap.{polynomial_domain}
use Rattle.ff_theory.specs.Planes.{Plane}
use Rattle.ff_charts.specs.Chart.{Chart, at_u, IsChart}
use Rattle.ff_theory.specs.Reversal.{reversed, Fits}
use Rattle.ff_charts.specs.FieldCharts.{inverted}
use Rattle.ff_charts.proofs.Chart.{at_u_map}
use Rattle.ff_charts.proofs.FiniteChart.{power_split}
use Rattle.ff_charts.proofs.InvertedChart.{G_at, G_size, fits_all, to_t, inverted_is_chart}
use Rattle.ff_conductor.proofs.Trace.{derivative_sum}
use Rattle.ff_conductor.proofs.Conductor.{different}

module _ (K : Field) (A : RingOps) (AL : IsCommRing A) (c : Chart K.ring A) (l : IsChart K.ring A c)
    (t : A.carrier) (tu : A.mul t c.u ≡ A.one) (e : ℕ) (fits : Fits K.ring c.degree c.equation e)
    (n : ℕ) (has : c.degree ≡ suc n) where
  abbrev P : Domain
  P = polynomial_domain K

  abbrev B : Chart K.ring A
  B = inverted c t e

  abbrev E : A.carrier
  E = power A t e

  abbrev F : Plane K
  F = c.equation

  abbrev G : Plane K
  G = reversed K.ring c.degree e F

  abbrev row_at : Plane K → ℕ → Poly K.ring
  row_at N i = coeff (polynomials K.ring) N.coeffs i

  pub inverted_different : different K A AL (inverted c t e)
      (inverted_is_chart K A AL c l t tu e fits)
      ≡ A.mul (power A (power A t e) n) (different K A AL c l)
  unfolding different
  inverted_different = derivative_sum (polynomials K.ring) P.laws P.tests A AL (at_u B)
      (at_u_map K A AL B (inverted_is_chart K A AL c l t tu e fits)) (A.mul E c.theta) G (suc n)
      (let s : size (polynomials K.ring) G
      ≡ suc c.degree = G_size K A AL c l t tu e fits in omega (arith, s, has))
      ∙ sum-ext A AL (suc n) _ _ (λ i q. term i q)
      ∙ sum-mul A AL (suc n) (power A E n) _
      ∙ ap (A.mul (power A E n)) (sym (derivative_sum (polynomials K.ring) P.laws P.tests A AL (at_u
      c) (at_u_map K A AL c l) c.theta F (suc n)
      (let s : size (polynomials K.ring) F ≡ suc c.degree = l.rows in omega (arith, s, has))))
    where
      term : (i : ℕ) → i < suc n → A.mul (at_u B (row_at G (suc i))) (multiple A (suc i) (power A
          (A.mul E c.theta) i)) ≡ A.mul (power A E n) (A.mul (at_u c (row_at F (suc i))) (multiple A
          (suc i) (power A c.theta i)))
      term i q = sym (multiple-mul A AL (suc i) (at_u B (row_at G (suc i)))
          (power A (A.mul E c.theta) i))
          ∙ ap (multiple A (suc i)) (ap₂ A.mul (ap (at_u B) (G_at K A AL c l t tu e fits (suc i)
          (omega (arith, has, q))) ∙ sym (to_t K A AL c l t tu e fits (times_ℕ (c.degree - suc
          i) e) (row_at F (suc i)) (fits_all K A AL c l t tu e fits (suc i) (omega (
            arith,
            has,
            q,
          ))))
          ∙ ap (λ p. A.mul p (at_u c (row_at F (suc i))))
          (sym (power-power A AL t e (c.degree - suc i)))) (power-mul A AL E c.theta i)
          ∙ ring4 A AL (λ p h q s. (p ⊗ h) ⊗ (q ⊗ s)) (λ p h q s. (p ⊗ q) ⊗ (h ⊗ s)) refl
          (power A E (c.degree - suc i)) (at_u c (row_at F (suc i))) (power A E i)
          (power A c.theta i)
          ∙ ap (λ p. A.mul p (A.mul (at_u c (row_at F (suc i))) (power A c.theta i)))
          (power_split A AL E i (c.degree - suc i) n (omega (arith, has, q))))
          ∙ multiple-mul A AL (suc i) (power A E n) _
          ∙ ap (A.mul (power A E n)) (multiple-mul A AL (suc i) (at_u c (row_at F (suc i)))
          (power A c.theta i))
