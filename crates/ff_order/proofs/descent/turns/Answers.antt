use Rattle.std.proofs.Common.{arith}
use Rattle.ff_order.proofs.LastSpace.{turn_holds, last_space}
use Rattle.ff_order.proofs.descent.turns.Goals as goal

pub turns-init : goal.turns-init
turns-init g c = record {
  space = c.requires.space;
  holds = c.requires.holds;
  next = c.in_ok-next.ensures.space;
  turn = c.in_ok-next.ensures.exact;
}

pub turns-preserved : goal.turns-preserved
turns-preserved g c =
    let F = g.K.Ring.elements c.args.alg.now.k in
    let L = g.K.Ring.lawful c.args.alg.now.k in
    record {
      space = c.turns.invariant.next;
      holds = turn_holds F L c.args.alg.now.f c.args.alg.now.plane c.args.alg.now.has_y
          c.args.chart c.args.rows.now c.requires.rows c.turns.space c.turns.next
          c.turns.invariant.space c.turns.invariant.next c.turns.invariant.turn
          c.turns.invariant.holds;
      next = c.in_ok-next-2.ensures.space;
      turn = c.in_ok-next-2.ensures.exact;
    }

pub returns-clause-exact : goal.returns-clause-exact
returns-clause-exact g c =
    last_space (g.K.Ring.elements c.args.alg.now.k) (g.K.Ring.lawful c.args.alg.now.k)
    c.args.alg.now.f c.args.alg.now.plane c.args.alg.now.has_y c.args.chart c.args.rows.now
    c.requires.rows c.turns.space c.turns.next c.turns.invariant.space c.turns.invariant.next
    c.turns.invariant.turn c.turns.invariant.holds
    (omega (arith, c.turns-test.false, c.dim.ensures, c.dim-in-turns.ensures))
