use Rattle.std.proofs.Common.{◌≡◌, ℕ, ◌<◌, length}
use Rattle.ff_theory.specs.Poly.{coeff, polynomials}
use Rattle.ff_theory.specs.Values.{poly_of, polys_of, ArePolys}
use Rattle.ff_lattice.specs.Residues.{IsRemainder}
use Rattle.ff_lattice.proofs.modulo.remainders.Given as goal

abbrev pub invariant-loop-p : goal.invariant-loop-p
invariant-loop-p g l =
    let F = g.K.Ring.elements l.k in
    let P = polynomials F.ring in
    record {
      len : length l.remainders.items ≡ l.p-index;
      each : ArePolys F l.remainders.items;
      value : (i : ℕ) → i < l.p-index → IsRemainder F.ring (poly_of F l.m)
          (coeff P (polys_of F l.rows) i) (coeff P (polys_of F l.remainders.items) i);
    }
