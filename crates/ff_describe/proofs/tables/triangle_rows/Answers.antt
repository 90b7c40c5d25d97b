use Rattle.std.proofs.Common.{◌≡◌, ◌+◌, ◌≤◌, suc, ap, subst, arith, length, IfSome, IfNone}
use Rattle.ff_theory.specs.Vector.{vectors_of}
use Rattle.ff_lin.specs.Space.{rows_of}
use Rattle.ff_describe.specs.Levels.{triangle}
use Rattle.ff_describe.specs.Readings.{IsReadableRow, IsTriangleRow, IsTriangle}
use Rattle.ff_describe.proofs.ElemLemmas.{triangle-next}
use Rattle.ff_describe.proofs.ReadingLemmas.{rows-more}
use Rattle.ff_describe.proofs.tables.triangle_rows.Goals as goal

pub triangle_row-requires : goal.triangle_row-requires
triangle_row-requires g c =
    let j = c.loop-j.j in
    let weights = c.args.weights.now in
    let t : triangle j + suc j ≤ triangle (length weights) = triangle-next (length weights) j
    (omega (arith, c.loop-j-test.true)) in
    record {
      small = c.requires.small;
      count = c.requires.count;
      rows = c.requires.rows;
      all = c.requires.all;
      index = omega (arith, c.loop-j-test.true);
      start = c.loop-j.invariant.start;
      room = omega (arith, t, c.loop-j.invariant.start, c.requires.products);
    }

pub overflow_add-start : goal.overflow_add-start
overflow_add-start g c =
    let j = c.loop-j.j in
    let weights = c.args.weights.now in
    let t : triangle j + suc j ≤ triangle (length weights) = triangle-next (length weights) j
    (omega (arith, c.loop-j-test.true)) in
    omega (arith, t, c.loop-j.invariant.start, c.requires.products, c.ranges.n)

pub overflow_add-start-in-loop-j : goal.overflow_add-start-in-loop-j
overflow_add-start-in-loop-j g c =
    let j = c.loop-j.j in
    let weights = c.args.weights.now in
    let t : triangle j + suc j ≤ triangle (length weights) = triangle-next (length weights) j
    (omega (arith, c.loop-j-test.true)) in
    omega (arith, t, c.loop-j.invariant.start, c.requires.products, c.ranges.n)

pub loop-j-init : goal.loop-j-init
loop-j-init g c = record {
  start = omega arith;
  rows = record {
    count = ap length c.in_ok-lists.ensures.items;
    row = λ j l. absurd (omega (arith, l));
  };
}

pub loop-j-preserved : goal.loop-j-preserved
loop-j-preserved g c =
    let F = g.K.Ring.elements c.args.k.now in
    let e = c.args.e in
    let weights = c.args.weights.now in
    let counts = c.args.counts.now in
    let rows = vectors_of F (rows_of c.args.rows.now) in
    let n = c.args.n in
    let j = c.loop-j.j in
    let s : suc j ≡ j + 1 = omega arith in
    let t : triangle j + suc j ≡ triangle (j + 1) = ap triangle s in
    record {
      start = omega (arith, t, c.loop-j.invariant.start);
      rows = rows-more F e weights counts rows n j c.loop-j.lists.items c.in-Some.list
          c.push.new.self.items c.loop-j.invariant.rows
          (subst (λ o. IfSome o (IsTriangleRow F e weights counts rows n j (j + 1))) c.in-Some.is
          c.in_ok-triangle_row.ensures.some) c.in_ok-push-in-Some.ensures.items;
    }

pub returns-in-None-clause-none : goal.returns-in-None-clause-none
returns-in-None-clause-none g c h =
    let F = g.K.Ring.elements c.args.k.now in
    let rows = vectors_of F (rows_of c.args.rows.now) in
    subst (λ o. IfNone o (¬ IsReadableRow F c.args.e c.args.weights.now c.args.counts.now rows
    c.args.n c.loop-j.j)) c.in-None.is c.in_ok-triangle_row.ensures.none
    (h c.loop-j.j (omega (arith, c.loop-j-test.true)))

pub returns-clause-some : goal.returns-clause-some
returns-clause-some g c =
    let F = g.K.Ring.elements c.args.k.now in
    let weights = c.args.weights.now in
    let whole : c.loop-j.j ≡ length weights = omega (
      arith,
      c.loop-j-test.false,
      c.loop-j.auto.j-end,
    ) in
    subst (λ m. IsTriangle F c.args.e weights c.args.counts.now
    (vectors_of F (rows_of c.args.rows.now)) c.args.n m c.loop-j.lists.items) whole
    c.loop-j.invariant.rows
