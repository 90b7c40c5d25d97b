-- Level 1 is the lattice of the residues that pass the linear test.
use Rattle.std.proofs.Common.{◌≡◌, ℕ, suc, ◌<◌, ◌≤◌}
use Rattle.ff_theory.specs.Ring.{RingOps, IsCommRing, power}
use Rattle.ff_theory.specs.Lawful.{Field}
use Rattle.ff_theory.specs.Poly.{coeff, Poly, polynomials}
use Rattle.ff_theory.specs.Division.{size}
use Rattle.ff_theory.specs.Divides.{Divides}
use Rattle.ff_theory.specs.Parts.{sum_of_parts}
use Rattle.ff_theory.specs.Planes.{Plane}
use Rattle.ff_theory.proofs.Frobenius.{HasCharacteristic}
use Rattle.ff_charts.specs.Chart.{Chart, at_u, at_theta, InPowers, IsChart}
use Rattle.ff_charts.specs.Lattice.{InLattice}
use Rattle.ff_conductor.proofs.PowerParts.{HasRoots}
use Rattle.ff_descent.specs.Descent.{InLevel, IsCarried}
use Rattle.ff_descent.proofs.Descent.{start_into, start_back}
use Rattle.ff_descent.proofs.LinearTest.{tested_into, tested_back, level_tested}
use Rattle.ff_descent.proofs.LinearTest.{tested_level}
use Rattle.ff_descent.proofs.RowProducts.{row_product}

-- b carries the residue to a multiple of d, and d divides its products with the parts
pub record IsPassed (K : Field) (A : RingOps) (c : Chart K.ring A) (q : ℕ) (b : A.carrier)
    (parts : ℕ → ℕ → ℕ → Poly K.ring) (d : Poly K.ring) (N : Plane K) : Type 0 where
  pub carried : IsCarried c b d N
  pub passes : (j s : ℕ) → j < c.degree → s < suc q
      → Divides (polynomials K.ring) d (row_product K c.degree (λ i. parts i j s) N)

-- B times b is d; b times the p-th power of theta^i is the plane M i, whose row j is the sum of the
-- parts i j
module _ (K : Field) (q : ℕ) (charP : HasCharacteristic (polynomials K.ring) (suc q))
    (roots : HasRoots K.ring (suc q)) (A : RingOps) (AL : IsCommRing A) (c : Chart K.ring A)
    (l : IsChart K.ring A c) (char : HasCharacteristic A (suc q)) (b B : A.carrier)
    (d : Poly K.ring)
    (hd : c.IsModulus d) (hb : InPowers c b) (hB : InPowers c B)
    (product : A.mul B b ≡ at_u c d) (M : ℕ → Plane K) (parts : ℕ → ℕ → ℕ → Poly K.ring)
    (few : (i : ℕ) → i < c.degree → size (polynomials K.ring) (M i) ≤ c.degree)
    (powers : (i : ℕ) → i < c.degree → A.mul b (power A (power A c.theta i) (suc q))
    ≡ at_theta c (M i))
    (split : (i j : ℕ) → i < c.degree → j < c.degree → coeff (polynomials K.ring) (M i).coeffs j
    ≡ sum_of_parts K.ring (suc q) (parts i j)) where
  pub first_into : (w : A.carrier) → InLevel c b q 1 w → InLattice c d (IsPassed K A c q b parts d)
      w
  first_into w h = at (start_into K A AL c l q b B d hd hb hB product w h.0)
    where
      at : InLattice c d (IsCarried c b d) w → InLattice c d (IsPassed K A c q b parts d) w
      at s = record {
        nums = s.nums;
        is_in = record {
          carried = s.is_in;
          passes = tested_into K q charP roots A AL c l char b M parts few powers split d hd s.nums
              s.residue.shape.rows
              (level_tested K q charP roots A AL c l char b hb d hd w s.nums s.residue h.1);
        };
        residue = s.residue;
      }

  pub first_back : (w : A.carrier) → InLattice c d (IsPassed K A c q b parts d) w
      → InLevel c b q 1 w
  first_back w h = (
    start_back K A AL c l q b B d hd hb hB product w
        (record { nums = h.nums; is_in = h.is_in.carried; residue = h.residue }),
    tested_level K q charP roots A AL c l char b hb d hd w h.nums h.residue
        (tested_back K q charP roots A AL c l char b M parts few powers split d h.nums
        h.residue.shape.rows h.is_in.passes),
  )
