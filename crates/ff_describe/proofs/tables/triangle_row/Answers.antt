use Rattle.std.proofs.Common.{◌≡◌, ◌+◌, ◌<◌, ◌^◌, sym, ap, subst, arith, length, get_or, IfSome}
use Rattle.std.proofs.Common.{IfNone}
use Rattle.ff_theory.specs.Vector.{vectors_of}
use Rattle.ff_lin.specs.Space.{rows_of}
use Rattle.ff_describe.specs.Readings.{IsReading, IsReadable, IsTriangleRow}
use Rattle.ff_describe.proofs.ReadingLemmas.{row-more}
use Rattle.ff_describe.proofs.tables.triangle_row.Goals as goal

pub overflow_add-bound : goal.overflow_add-bound
overflow_add-bound g c =
    let weights = c.args.weights.now in
    let i = c.loop-i.i in
    let a : get_or weights i 0 < 2 ^ 31 = c.requires.small i 0 (omega (
      arith,
      c.loop-i-test.true,
      c.requires.index,
    )) in
    let b : get_or weights c.args.j 0 < 2 ^ 31 = c.requires.small c.args.j 0 c.requires.index in
    omega (arith, a, b)

pub reading-requires : goal.reading-requires
reading-requires g c = record {
  count = c.requires.count;
  rows = c.requires.rows;
  row = omega (arith, c.requires.all, c.requires.room, c.loop-i-test.true);
  index = omega (arith, c.requires.room, c.loop-i-test.true);
}

pub loop-i-init : goal.loop-i-init
loop-i-init g c = record {
  count = ap length c.in_ok-items.ensures.items;
  reading = λ i l. absurd (omega (arith, l));
}

pub loop-i-preserved : goal.loop-i-preserved
loop-i-preserved g c =
    let F = g.K.Ring.elements c.args.k.now in
    let e = c.args.e in
    let weights = c.args.weights.now in
    let counts = c.args.counts.now in
    let rows = vectors_of F (rows_of c.args.rows.now) in
    let n = c.args.n in
    let j = c.args.j in
    let i = c.loop-i.i in
    let bound = get_or weights i 0 + get_or weights j 0 in
    row-more F e weights counts rows n j i c.loop-i.items.items c.in-Some.c
    c.push.new.self.items c.loop-i.invariant
    (subst (λ s. IsReading F e weights counts rows n (s + i) bound c.in-Some.c) c.requires.start
    (subst (λ o. IfSome o (IsReading F e weights counts rows n (c.args.start + i) bound))
    c.in-Some.is c.in_ok-reading.ensures.some)) c.in_ok-push-in-Some.ensures.items

pub returns-in-None-clause-none : goal.returns-in-None-clause-none
returns-in-None-clause-none g c h =
    let F = g.K.Ring.elements c.args.k.now in
    let e = c.args.e in
    let weights = c.args.weights.now in
    let counts = c.args.counts.now in
    let rows = vectors_of F (rows_of c.args.rows.now) in
    let n = c.args.n in
    let j = c.args.j in
    let i = c.loop-i.i in
    let bound = get_or weights i 0 + get_or weights j 0 in
    subst (λ o. IfNone o (¬ IsReadable F e weights counts rows n (c.args.start + i) bound))
    c.in-None.is c.in_ok-reading.ensures.none
    (subst (λ s. IsReadable F e weights counts rows n (s + i) bound) (sym c.requires.start)
    (h i (omega (arith, c.loop-i-test.true))))

pub returns-clause-some : goal.returns-clause-some
returns-clause-some g c =
    let F = g.K.Ring.elements c.args.k.now in
    let whole : c.loop-i.i ≡ c.args.j + 1 = omega (
      arith,
      c.loop-i-test.false,
      c.loop-i.auto.i-end,
    ) in
    subst (λ m. IsTriangleRow F c.args.e c.args.weights.now c.args.counts.now
    (vectors_of F (rows_of c.args.rows.now)) c.args.n c.args.j m c.loop-i.items.items) whole
    c.loop-i.invariant
