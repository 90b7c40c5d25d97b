use Rattle.std.proofs.Common.{length, ap, arith}
use Rattle.ff_lin.specs.Space.{rows_of}
use Rattle.ff_data.specs.Orders.{y_degree}
use Rattle.ff_functions.proofs.FrameLists.{hold_none, hold_less}
use Rattle.ff_functions.proofs.frame.multiples.Goals as goal

pub with_multiples-requires : goal.with_multiples-requires
with_multiples-requires g c = record {
  d = c.requires.d;
  nonzero = c.requires.nonzero;
  room = c.requires.room;
  len = c.requires.len;
  row = omega (arith, c.loop-i-test.true, ap length c.rows.ensures);
  list = c.loop-i.invariant.0;
  held = c.loop-i.invariant.1;
}

pub loop-i-init : goal.loop-i-init
loop-i-init g c =
    let F = g.K.Ring.elements c.args.alg.now.k in
    let L = g.K.Ring.lawful c.args.alg.now.k in (
      (λ k d l. absurd (omega (arith, l, ap length c.new-list.ensures.items))),
      hold_none F c.args.d.now c.args.l (y_degree L c.args.alg.now.f) c.args.m c.args.slope
          c.new-list.result.items c.new-list.ensures.items,
    )

pub loop-i-preserved : goal.loop-i-preserved
loop-i-preserved g c = (c.in_ok-list.ensures.vectors, c.in_ok-list.ensures.held)

pub returns-clause-vectors : goal.returns-clause-vectors
returns-clause-vectors g c = c.loop-i.invariant.0

pub returns-clause-held : goal.returns-clause-held
returns-clause-held g c =
    let F = g.K.Ring.elements c.args.alg.now.k in
    let L = g.K.Ring.lawful c.args.alg.now.k in
    let n = y_degree L c.args.alg.now.f in
    hold_less F c.args.d.now c.args.l n c.args.m c.args.slope c.loop-i.i n
    (omega (arith, c.loop-i-test.false, ap length c.rows.ensures)) (rows_of c.loop-i.list.items)
    c.loop-i.invariant.1
