use Rattle.std.proofs.Common.{◌+◌, ◌*◌, ◌-◌, length, refl, arith}
use Rattle.ff_lin.specs.Space.{rows_of}
use Rattle.ff_data.specs.Orders.{y_degree}
use Rattle.ff_functions.proofs.FrameLists.{hold_more, hold_row}
use Rattle.ff_functions.proofs.SearchLemmas.{row_room}
use Rattle.ff_functions.proofs.frame.with_multiples.Goals as goal

pub overflow_mul-start : goal.overflow_mul-start
overflow_mul-start g c =
    let room = row_room c.args.i (length c.args.alg.now.f - 1) c.args.l c.requires.row in
    omega (arith, room, c.requires.len)

pub overflow_add-b-end : goal.overflow_add-b-end
overflow_add-b-end g c = omega (arith, c.requires.nonzero, c.requires.room)

pub overflow_add-start : goal.overflow_add-start
overflow_add-start g c =
    let room = row_room c.args.i (length c.args.alg.now.f - 1) c.args.l c.requires.row in
    omega (arith, room, c.requires.len, c.requires.room, c.loop-b-test.true, c.requires.nonzero)

pub with_multiple-requires : goal.with_multiple-requires
with_multiple-requires g c =
    let room = row_room c.args.i (length c.args.alg.now.f - 1) c.args.l c.requires.row in
    record {
      d = c.requires.d;
      room = omega (arith, room, c.requires.len, c.requires.room, c.loop-b-test.true);
      list = c.loop-b.invariant.0;
    }

pub loop-b-init : goal.loop-b-init
loop-b-init g c = (c.requires.list, c.requires.held)

pub loop-b-preserved : goal.loop-b-preserved
loop-b-preserved g c =
    let F = g.K.Ring.elements c.args.alg.now.k in
    let L = g.K.Ring.lawful c.args.alg.now.k in (
      c.in_ok-list.ensures.vectors,
      hold_more F c.args.d.now c.args.l (y_degree L c.args.alg.now.f) c.args.m c.args.slope
          c.args.i c.loop-b.b (c.args.i * c.args.l + c.loop-b.b) c.requires.row refl
          c.is_within-wanted.result c.is_within-wanted.ensures c.loop-b.list.items
          c.in_ok-list.list.items
          c.in_ok-list.ensures.grown c.loop-b.invariant.1,
    )

pub returns-clause-vectors : goal.returns-clause-vectors
returns-clause-vectors g c = c.loop-b.invariant.0

pub returns-clause-held : goal.returns-clause-held
returns-clause-held g c =
    let F = g.K.Ring.elements c.args.alg.now.k in
    let L = g.K.Ring.lawful c.args.alg.now.k in
    hold_row F c.args.d.now c.args.l (y_degree L c.args.alg.now.f) c.args.m c.args.slope c.args.i
    c.loop-b.b (omega (arith, c.loop-b-test.false)) (rows_of c.loop-b.list.items)
    c.loop-b.invariant.1
