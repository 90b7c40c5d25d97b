-- Where a level of the descent is the next one, it consists of the integral elements.
use Rattle.std.proofs.Common.{◌≡◌, ℕ, zero, suc, ◌<◌, false, sym, ◌∙◌, ap}
use Rattle.ff_theory.specs.Ring.{RingOps, IsCommRing}
use Rattle.ff_theory.specs.Lawful.{Field}
use Rattle.ff_theory.specs.Poly.{Poly, polynomials}
use Rattle.ff_theory.proofs.Frobenius.{HasCharacteristic}
use Rattle.ff_charts.specs.Chart.{Chart, at_u, InPowers, IsIntegral, IsChart}
use Rattle.ff_descent.specs.Descent.{InLevel}
use Rattle.ff_charts.proofs.Chart.{powers_at, powers_mul}
use Rattle.ff_conductor.proofs.PowerParts.{HasRoots}
use Rattle.ff_conductor.proofs.Conductor.{different}
use Rattle.ff_conductor.proofs.Free.{power_sum_unique}
use Rattle.ff_descent.proofs.Descent.{integral_below}
use Rattle.ff_descent.proofs.Closed.{closed_integral}

module _ (K : Field) (A : RingOps) (AL : IsCommRing A) (c : Chart K.ring A) (l : IsChart K.ring A c)
    (q : ℕ) (more : 0 < q) (char : HasCharacteristic A (suc q))
    (charP : HasCharacteristic (polynomials K.ring) (suc q)) (roots : HasRoots K.ring (suc q))
    (b : A.carrier) (d : Poly K.ring) (hb : InPowers c b)
    (nd : (polynomials K.ring).same d (polynomials K.ring).zero ≡ false)
    (product : A.mul b (different K A AL c l) ≡ at_u c d) where
  level_zero : (i : ℕ) (w : A.carrier) → InLevel c (different K A AL c l) q i w
      → InLevel c (different K A AL c l) q 0 w
  level_zero zero w h = h
  level_zero (suc i) w h = level_zero i w h.0

  pub integral_in_level : (i : ℕ) (s : A.carrier) → IsIntegral c s
      → InLevel c (different K A AL c l) q i s
  integral_in_level i s h = integral_below K A AL c l q more char charP roots
      (power_sum_unique K A AL c l q char b d hb nd product charP roots) i s h

  -- maximal_exact
  pub level_integral : (i : ℕ) → ((w : A.carrier) → InLevel c (different K A AL c l) q i w → InLevel
      c (different K A AL c l) q (suc i) w) → (w : A.carrier)
      → InLevel c (different K A AL c l) q i w → IsIntegral c w
  level_integral i stands w h = closed_integral K A AL c l q (InLevel c (different K A AL c l) q i)
      d nd
      (λ w v. powers_at K A AL c l (sym (AL.mul_assoc b (different K A AL c l) w) ∙ ap (λ t. A.mul t
      w) product) (powers_mul K A AL c l b _ hb (level_zero i w v)))
      (λ w v. (stands w v).1) more char charP roots
      (power_sum_unique K A AL c l q char b d hb nd product charP roots) b d hb nd product w h
