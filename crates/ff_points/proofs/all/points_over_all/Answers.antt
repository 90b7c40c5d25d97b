use Rattle.std.proofs.Common.{◌≤◌, sym, subst, arith}
use Rattle.ff_points.specs.PointLists.{AreRisingPoints}
use Rattle.ff_points.proofs.PointListLemmas.{no_points, points_next, points_all}
use Rattle.ff_points.proofs.all.points_over_all.Goals as goal

pub loop-i-init : goal.loop-i-init
loop-i-init g c =
    let F = g.K.Ring.elements c.args.alg.now.k in
    let L = g.K.Ring.lawful c.args.alg.now.k in
    let f = c.args.alg.now.f in
    let o = c.args.order.now in
    record {
      list = subst (AreRisingPoints L f o) (sym c.new-list.ensures.items) (no_points F L f o);
      below = λ closed p point l. absurd (omega (arith, l));
    }

pub insert_points_over-requires : goal.insert_points_over-requires
insert_points_over-requires g c = record {
  order = c.requires.order;
  equation = c.requires.equation;
  equation_is = c.requires.equation_is;
  a = c.nth.ensures.element;
  at_infinity = λ e. absurd (cc (e, c.requires.finite));
  list = c.loop-i.invariant.list;
}

pub loop-i-preserved : goal.loop-i-preserved
loop-i-preserved g c =
    let F = g.K.Ring.elements c.args.alg.now.k in
    let L = g.K.Ring.lawful c.args.alg.now.k in
    let h = c.in_ok-insert_points_over.ensures in
    record {
      list = h.list;
      below = points_next F L c.args.alg.now.f c.args.order.now c.loop-i.i c.nth.result
          c.loop-i.list.items c.insert_points_over.new.list.items c.nth.ensures.value
          c.loop-i.invariant.below h.kept h.over;
    }

pub returns-clause-all : goal.returns-clause-all
returns-clause-all g c =
    let F = g.K.Ring.elements c.args.alg.now.k in
    let L = g.K.Ring.lawful c.args.alg.now.k in
    points_all F L c.args.alg.now.f c.args.order.now c.loop-i.i c.loop-i.list.items
    (subst (λ n. n ≤ c.loop-i.i) c.count-i-end.ensures c.loop-i-test.false)
    c.loop-i.invariant.below
