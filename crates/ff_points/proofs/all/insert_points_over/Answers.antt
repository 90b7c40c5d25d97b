use Rattle.std.proofs.Common.{◌≡◌, true, false, sym, ◌∙◌, ap, subst}
use Rattle.ff_theory.specs.Values.{ArePolys, plane_of}
use Rattle.ff_points.proofs.PointListLemmas.{none_over, self_among}
use Rattle.ff_points.proofs.all.insert_points_over.Goals as goal

pub has_root_over-requires : goal.has_root_over-requires
has_root_over-requires g c = record {
  rows = subst (ArePolys (g.K.Ring.elements c.args.alg.now.k)) (sym c.rows.ensures)
      c.requires.equation.each;
  a = c.requires.a;
}

pub insert_points_at-requires : goal.insert_points_at-requires
insert_points_at-requires g c = record {
  order = c.requires.order;
  a = c.requires.a;
  at_infinity = c.requires.at_infinity;
  fibre = c.in_ok-fibre.ensures.form;
  fibre_is = c.in_ok-fibre.ensures.fibre;
  equation = c.requires.equation;
  equation_is = c.requires.equation_is;
  list = c.requires.list;
}

pub returns-then-not-branch : goal.returns-then-not-branch
returns-then-not-branch g c =
    let F = g.K.Ring.elements c.args.alg.now.k in
    let L = g.K.Ring.lawful c.args.alg.now.k in
    record {
      list = c.requires.list;
      kept = self_among c.args.list.now.items;
      over = none_over F L c.args.alg.now.f c.args.order.now c.rows.result.now
          (ap (plane_of F) c.rows.ensures ∙ c.requires.equation_is) c.args.a
          (λ t root. let clash : false ≡ true = sym c.if-not-branch.true
          ∙ c.in_ok-has_root_over.ensures t root in absurd cc) c.args.list.now.items;
    }

pub returns : goal.returns
returns g c = c.insert_points_at.ensures
