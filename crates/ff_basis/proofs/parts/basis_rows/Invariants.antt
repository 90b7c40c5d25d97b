use Rattle.std.proofs.Common.{◌≡◌, ℕ, ◌<◌, length, map}
use Rattle.ff_theory.specs.Poly.{coeff, polynomials}
use Rattle.ff_theory.specs.Vector.{vectors_of}
use Rattle.ff_theory.specs.Values.{polys_of, ArePolys}
use Rattle.ff_basis.specs.Blocks.{row_in}
use Rattle.ff_basis.proofs.parts.basis_rows.Given as goal

abbrev pub invariant-loop-s : goal.invariant-loop-s
invariant-loop-s g l =
    let F = g.K.Ring.elements l.k in
    record {
      len : length l.rows.items ≡ l.s;
      each : ArePolys F l.rows.items;
      value : (i : ℕ) → i < l.s → coeff (polynomials F.ring) (polys_of F l.rows.items) i
          ≡ row_in F.ring (vectors_of F (map (λ v. v.items) l.basis)) l.n l.l i;
    }
