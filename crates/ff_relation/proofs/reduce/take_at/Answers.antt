use Rattle.std.proofs.Common.{◌≡◌, ◌<◌, length, sym, arith}
use Rattle.ff_relation.specs.InRing.{number_at}
use Rattle.ff_relation.proofs.SplitLemmas.{split-low, split-zero, number-read, coefficient-read}
use Rattle.ff_relation.proofs.SplitLemmas.{row-room}
use Rattle.ff_relation.proofs.reduce.take_at.Goals as goal

pub returns-then-d-index-clause-exact : goal.returns-then-d-index-clause-exact
returns-then-d-index-clause-exact g c = λ w b rank t level a h.
    let F = g.K.Ring.elements c.args.k.now in
    let L = g.K.Ring.lawful c.args.k.now in
    let p = c.args.p.now in
    let l = c.args.l in
    let limit : c.index.result.now ≡ number_at p.limits.items l =
    number-read p.limits.items l c.index.result.now
    (omega (arith, c.requires.l, c.requires.p.limit_count)) c.index.ensures in
    split-low F L c.args.s.now rank b a t l c.args.d _ _ c.requires.p c.requires.l
    (omega (arith, c.if-d-index.true, limit)) level h

pub returns-then-is_zero-clause-exact : goal.returns-then-is_zero-clause-exact
returns-then-is_zero-clause-exact g c = λ w b rank t level a h.
    let F = g.K.Ring.elements c.args.k.now in
    let L = g.K.Ring.lawful c.args.k.now in
    let rows = c.args.rows.now in
    let l = c.args.l in
    let d = c.args.d in
    let v = c.index-2.result.now in
    let x = c.index-c.result.now in
    let inside : l < length rows.rest.items =
    omega (arith, c.requires.l, c.requires.rows.rest.count) in
    split-zero F L c.args.s.now rank b a t l d x _ _ c.requires.l
    (coefficient-read F L c.args.s.now rows.rest.items l d v x
    (omega (arith, c.requires.l, rank)) inside c.index-2.ensures
    (row-room F rows.rest.items l d v c.args.n _ inside c.requires.d c.index-2.ensures
    c.requires.rows.rest.each) c.index-c.ensures)
    (L.tests.same_true (F.value x) F.zero (sym c.if-is_zero.ensures)) level h

pub returns-clause-exact : goal.returns-clause-exact
returns-clause-exact g c = λ w b rank t level a h.
    let F = g.K.Ring.elements c.args.k.now in
    let L = g.K.Ring.lawful c.args.k.now in
    let rows = c.args.rows.now in
    let p = c.args.p.now in
    let l = c.args.l in
    let d = c.args.d in
    let v = c.index-2.result.now in
    let x = c.index-c.result.now in
    let inside : l < length rows.rest.items =
    omega (arith, c.requires.l, c.requires.rows.rest.count) in
    let limit : c.index.result.now ≡ number_at p.limits.items l =
    number-read p.limits.items l c.index.result.now
    (omega (arith, c.requires.l, c.requires.p.limit_count)) c.index.ensures in
    c.take.ensures.exact w b rank (omega (arith, c.if-d-index.false, limit))
    (coefficient-read F L c.args.s.now rows.rest.items l d v x
    (omega (arith, c.requires.l, rank)) inside c.index-2.ensures
    (row-room F rows.rest.items l d v c.args.n _ inside c.requires.d c.index-2.ensures
    c.requires.rows.rest.each) c.index-c.ensures) t level a h
