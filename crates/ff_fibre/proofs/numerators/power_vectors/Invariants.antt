use Rattle.std.proofs.Common.{◌≡◌, ℕ, ◌*◌, ◌-◌, ◌<◌, length}
use Rattle.ff_theory.specs.Poly.{polynomials}
use Rattle.ff_theory.specs.Monomial.{monomial}
use Rattle.ff_theory.specs.Values.{poly_of}
use Rattle.ff_theory.specs.Vector.{vectors_of}
use Rattle.ff_charts.specs.Lattice.{flat}
use Rattle.ff_lin.specs.Space.{rows_of, AreVectors}
use Rattle.ff_fibre.proofs.numerators.power_vectors.Given as goal

abbrev pub invariant-loop-i : goal.invariant-loop-i
invariant-loop-i g l =
    let F = g.K.Ring.elements l.alg.k in
    let d = l.order.d in
    record {
      len : length l.list.items ≡ l.i;
      vectors : AreVectors F ((length l.alg.f - 1) * length d) l.list.items;
      value : (i : ℕ) → i < l.i → (j : ℕ) → vectors_of F (rows_of l.list.items) i j
          ≡ flat F.ring (length d) (monomial (polynomials F.ring) (poly_of F d) i) j;
    }
