use Rattle.std.proofs.Common.{ap, subst, sym, ◌∙◌}
use Rattle.ff_theory.specs.Poly.{polynomials}
use Rattle.ff_theory.specs.Values.{plane_of, poly_of}
use Rattle.ff_theory.specs.Planes.{row_of}
use Rattle.ff_theory.proofs.Results.{ok_map}
use Rattle.ff_theory.specs.Values.{ArePolys}
use Rattle.ff_subst.specs.Congruence.{AreCongruent}
use Rattle.ff_subst.proofs.modulo.multiple.Goals as goal

pub reduce-requires : goal.reduce-requires
reduce-requires g c =
    let K = g.K.Ring.elements c.args.k.now in
    record {
      m = c.requires.m;
      rows = subst (ArePolys K) (sym c.rows.ensures)
          c.in_ok-whole.ensures.plane.each;
    }

pub returns-clause-congruent : goal.returns-clause-congruent
returns-clause-congruent g c =
    let K = g.K.Ring.elements c.args.k.now in
    let P = polynomials (polynomials K.ring) in
    let m = c.args.m.now in
    ok_map (λ r. AreCongruent K m (plane_of K c.rows.result.now) (plane_of K r))
    (λ r. AreCongruent K m (P.mul (row_of K.ring (poly_of K c.args.c.now)) (plane_of K
    c.args.plane.now)) (plane_of K r)) c.reduce.result
    (λ r h. subst (λ N. AreCongruent K m N (plane_of K r))
    (ap (plane_of K) c.rows.ensures ∙ c.in_ok-whole.ensures.value) h) c.reduce.ensures.congruent
