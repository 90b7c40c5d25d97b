use Rattle.std.proofs.Common.{sym, subst}
use Rattle.ff_points.specs.PointLists.{AreRisingPoints}
use Rattle.ff_points.proofs.PointListLemmas.{no_points, points_zero}
use Rattle.ff_points.proofs.all.points_over_zero.Goals as goal

pub insert_points_over-requires : goal.insert_points_over-requires
insert_points_over-requires g c =
    let F = g.K.Ring.elements c.args.alg.now.k in
    let L = g.K.Ring.lawful c.args.alg.now.k in
    let f = c.args.alg.now.f in
    let o = c.args.order.now in
    record {
      order = c.requires.order;
      equation = c.requires.equation;
      equation_is = c.requires.equation_is;
      a = c.zero.ensures.element;
      at_infinity = λ e. c.zero.ensures.value;
      list = subst (AreRisingPoints L f o) (sym c.new-list.ensures.items) (no_points F L f o);
    }

pub returns-clause-all : goal.returns-clause-all
returns-clause-all g c =
    let F = g.K.Ring.elements c.args.alg.now.k in
    let L = g.K.Ring.lawful c.args.alg.now.k in
    points_zero F L c.args.alg.now.f c.args.order.now c.requires.infinite c.zero.result
    c.zero.ensures.value c.insert_points_over.new.list.items
    c.in_ok-insert_points_over.ensures.over
