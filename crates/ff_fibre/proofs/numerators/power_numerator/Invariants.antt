use Rattle.std.proofs.Common.{◌≡◌, []}
use Rattle.ff_theory.specs.Poly.{polynomials}
use Rattle.ff_theory.specs.Monomial.{raised}
use Rattle.ff_theory.specs.Values.{polys_of, ArePolys}
use Rattle.ff_fibre.proofs.numerators.power_numerator.Given as goal

abbrev pub invariant-loop-j : goal.invariant-loop-j
invariant-loop-j g l =
    let F = g.K.Ring.elements l.k in
    record {
      each : ArePolys F l.rows.items;
      value : polys_of F l.rows.items ≡ raised (polynomials F.ring) l._j [];
    }
