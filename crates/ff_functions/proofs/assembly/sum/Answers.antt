use Rattle.std.proofs.Common.{length, sym, ◌∙◌, ap, ap₂, subst, arith}
use Rattle.ff_theory.specs.Values.{ArePolys, poly_of, plane_of, polys_over, planes_over}
use Rattle.ff_theory.specs.Planes.{row_of}
use Rattle.ff_theory.specs.Monomial.{monomial}
use Rattle.ff_functions.proofs.CombinedLemmas.{plane_sum_is}
use Rattle.ff_functions.proofs.assembly.sum.Goals as goal

pub combination-requires : goal.combination-requires
combination-requires g c =
    let F = g.K.Ring.elements c.args.alg.now.k in
    record {
      c = c.requires.factor;
      a = subst (ArePolys F) (sym c.rows.ensures) c.requires.a.plane.each;
      t = c.in_ok-c.ensures.poly;
      b = subst (ArePolys F) (sym c.rows-2.ensures) c.requires.b.plane.each;
    }

pub returns-clause-plane : goal.returns-clause-plane
returns-clause-plane g c = record {
  plane = c.from_vec.ensures.plane;
  few = omega (
    arith,
    c.from_vec.ensures.len,
    c.in_ok-list.ensures.len,
    ap length c.rows.ensures,
    ap length c.rows-2.ensures,
    c.requires.a.few,
    c.requires.b.few,
  );
}

pub returns-clause-value : goal.returns-clause-value
returns-clause-value g c =
    let F = g.K.Ring.elements c.args.alg.now.k in
    let L = g.K.Ring.lawful c.args.alg.now.k in
    plane_sum_is F L c.args.alg.now.f c.args.alg.now.plane c.args.alg.now.has_y
    (poly_of F c.args.factor.now) (poly_of F c.in_ok-c.c) (plane_of F c.args.a.now)
    (plane_of F c.args.b.now) (F.value c.args.c) c.from_vec.result c.in_ok-c.ensures.value
    (c.from_vec.ensures.value ∙ c.in_ok-list.ensures.value
    ∙ ap₂ (λ a b. (planes_over F).add ((planes_over F).mul (row_of F.ring
    (poly_of F c.args.factor.now)) (plane_of F a)) ((planes_over F).mul
    (monomial (polys_over F) (poly_of F c.in_ok-c.c) 0) (plane_of F b))) c.rows.ensures
    c.rows-2.ensures)
