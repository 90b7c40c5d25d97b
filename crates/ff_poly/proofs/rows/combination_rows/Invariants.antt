use Rattle.std.proofs.Common.{◌≡◌, ℕ, ◌<◌, length}
use Rattle.ff_theory.specs.Poly.{coeff, polynomials}
use Rattle.ff_theory.specs.Values.{poly_of, polys_of, ArePolys}
use Rattle.ff_theory.specs.Monomial.{raised}
use Rattle.ff_poly.proofs.rows.combination_rows.Given as goal

abbrev pub invariant-loop-i : goal.invariant-loop-i
invariant-loop-i g l =
    let K = g.K.Ring.elements l.k in
    let P = polynomials K.ring in
    record {
      len : length l.rows.items ≡ l.i;
      each : ArePolys K l.rows.items;
      rows : (j : ℕ) → j < l.i → coeff P (polys_of K l.rows.items) j
          ≡ P.add (P.mul (poly_of K l.c) (coeff P (polys_of K l.a) j))
          (P.mul (poly_of K l.t) (coeff P (raised P l.at (polys_of K l.b)) j));
    }
