use Rattle.std.proofs.Common.{◌≡◌, ℕ, ◌<◌, ◌*◌, length}
use Rattle.ff_theory.specs.Poly.{coeff, polynomials}
use Rattle.ff_theory.specs.Vector.{vector_of}
use Rattle.ff_theory.specs.Values.{polys_of, ArePolys}
use Rattle.ff_lattice.specs.Vectors.{IsPart}
use Rattle.ff_lattice.proofs.vectors.plane_of_vector.Given as goal

abbrev pub invariant-loop-i : goal.invariant-loop-i
invariant-loop-i g l =
    let F = g.K.Ring.elements l.k in
    record {
      len : length l.rows.items ≡ l.i;
      each : ArePolys F l.rows.items;
      value : (i : ℕ) → i < l.i → IsPart F.ring l.l (vector_of F l.v) (i * l.l)
          (coeff (polynomials F.ring) (polys_of F l.rows.items) i);
    }
