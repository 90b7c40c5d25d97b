use Rattle.std.proofs.Common.{◌≡◌, ℕ, ◌≤◌, length, map, take}
use Rattle.ff_theory.specs.Poly.{coeff, polynomials}
use Rattle.ff_theory.specs.Values.{poly_of}
use Rattle.ff_poly.proofs.plane.Plane.significant_rows.Given as goal

abbrev pub invariant-loop-n : goal.invariant-loop-n
invariant-loop-n g l = record {
  below : l.n ≤ length l.rows;
  same : (i : ℕ) → coeff (polynomials (g.K.Ring.elements l.k).ring)
      (map (λ p. poly_of (g.K.Ring.elements l.k) p) (take l.n l.rows)) i
      ≡ coeff (polynomials (g.K.Ring.elements l.k).ring)
      (map (λ p. poly_of (g.K.Ring.elements l.k) p) l.rows) i;
}

abbrev pub decreases-loop-n : goal.decreases-loop-n
decreases-loop-n g l = l.n
