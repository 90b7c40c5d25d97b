-- A residue lattice that holds the integral elements consists of them where it stands under a turn
-- of the descent, or where it is closed under products.
use Rattle.std.proofs.Common.{◌≡◌, ℕ, suc, pred, ◌<◌, false}
use Rattle.ff_theory.specs.Ring.{RingOps, IsCommRing, power}
use Rattle.ff_theory.specs.Lawful.{Field}
use Rattle.ff_theory.specs.Poly.{Poly, polynomials}
use Rattle.ff_theory.specs.Division.{size}
use Rattle.ff_theory.specs.Planes.{Plane}
use Rattle.ff_theory.proofs.Frobenius.{HasCharacteristic}
use Rattle.ff_charts.specs.Chart.{Chart, at_u, InPowers, IsIntegral, IsChart}
use Rattle.ff_charts.specs.Lattice.{HasShape, InLattice}
use Rattle.ff_charts.proofs.Lattice.{lat_above, lat_clears}
use Rattle.ff_conductor.proofs.PowerParts.{HasRoots}
use Rattle.ff_conductor.proofs.Conductor.{different}
use Rattle.ff_conductor.proofs.Free.{power_sum_unique}
use Rattle.ff_descent.specs.Descent.{IsStepped}
use Rattle.ff_descent.proofs.Descent.{step_into, step_back, integral_power}
use Rattle.ff_descent.proofs.Closed.{closed_integral}

-- b times the different is d
module _ (K : Field) (A : RingOps) (AL : IsCommRing A) (c : Chart K.ring A) (l : IsChart K.ring A c)
    (q : ℕ) (more : 0 < q) (char : HasCharacteristic A (suc q))
    (charP : HasCharacteristic (polynomials K.ring) (suc q)) (roots : HasRoots K.ring (suc q))
    (b : A.carrier) (d : Poly K.ring) (hb : InPowers c b)
    (nd : (polynomials K.ring).same d (polynomials K.ring).zero ≡ false)
    (product : A.mul b (different K A AL c l) ≡ at_u c d) (m : Poly K.ring) (hm : c.IsModulus m)
    (T : Plane K → Type 0) where
  -- a turn keeps the integral elements
  pub turn_keeps : ((s : A.carrier) → IsIntegral c s → InLattice c m T s) → (s : A.carrier)
      → IsIntegral c s → InLattice c m (IsStepped c q m T) s
  turn_keeps holds s h = step_into K A AL c l q char b m hm T s (holds s h)
      (holds (power A s (suc q)) (integral_power K A AL c l s h (suc q)))

  -- and takes nothing in
  pub turn_falls : (w : A.carrier) → InLattice c m (IsStepped c q m T) w → InLattice c m T w
  turn_falls w h = (step_back K A AL c l q char b m hm T w h).0

  -- where it takes nothing out, there are integral elements alone
  pub turn_stands : ((N : Plane K) → HasShape K.ring c.degree (pred (size K.ring m)) N → T N
      → IsStepped c q m T N) → (w : A.carrier) → InLattice c m T w → IsIntegral c w
  turn_stands stands w h = closed_integral K A AL c l q (InLattice c m T) m (l.modulus_nonzero m hm)
      (lat_clears K A AL c l m hm T)
      (λ v k. (step_back K A AL c l q char b m hm T v
      (lat_above K A AL c l m hm T (IsStepped c q m T) stands v k)).1) more char charP roots
      (power_sum_unique K A AL c l q char b d hb nd product charP roots) b d hb nd product w h
