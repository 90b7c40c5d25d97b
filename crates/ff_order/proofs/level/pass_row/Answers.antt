use Rattle.std.proofs.Common.{ℕ, List, length, sym, ap, subst, arith, Vec, Global}
use Rattle.std.proofs.lemmas.List.{length-map}
use Rattle.ff_order.specs.Level.{HaveParts, HoldsPassed, lists_of}
use Rattle.ff_order.proofs.TestedRows.{passed_holds}
use Rattle.ff_order.proofs.level.pass_row.Goals as goal

pub pass-requires : goal.pass-requires
pass-requires g c =
    let F = g.K.Ring.elements c.args.alg.now.k in
    let items : Vec (List ℕ) Global → List (List ℕ) = λ v. v.items in
    let lists = c.in_ok-lists.lists.items in
    let count = length-map lists items in
    let e = c.deref.ensures.value in
    let h = c.in_ok-lists.ensures in
    record {
      rows = c.requires.rows;
      space = c.loop-s.invariant.space;
      lists = subst (λ t. HaveParts F (lists_of t)) (sym e) (λ i l. (h.each i l).parts_are);
      count = omega (arith, ap length e, count, h.len);
      index = omega (arith, c.loop-s-test.true, c.characteristic-s-end.ensures);
    }

pub loop-s-preserved : goal.loop-s-preserved
loop-s-preserved g c =
    let L = g.K.Ring.lawful c.args.alg.now.k in
    let f = c.args.alg.now.f in
    let lists = c.in_ok-lists.lists.items in
    record {
      space = c.in_ok-space.ensures.space;
      holds = passed_holds (g.K.Ring.elements c.args.alg.now.k) L f c.args.alg.now.plane
          c.args.alg.now.has_y c.args.chart c.args.rows.now c.requires.rows c.args.j
          c.requires.index (lists_of lists) c.in_ok-lists.ensures c.loop-s.space
          c.in_ok-space.space c.loop-s.s
          (omega (arith, c.loop-s-test.true, c.characteristic-s-end.ensures))
          c.loop-s.invariant.holds
          (subst (λ t. HoldsPassed L f c.args.chart c.args.rows.now.d (lists_of t) c.loop-s.s
          c.loop-s.space c.in_ok-space.space) c.deref.ensures.value c.in_ok-space.ensures.holds);
    }
