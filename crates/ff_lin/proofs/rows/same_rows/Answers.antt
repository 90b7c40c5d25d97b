use Rattle.std.proofs.Common.{ℕ, arith, Vec, Global}
use Rattle.ff_lin.proofs.Compare.{rows-next, rows-differ, true-is-false}
use Rattle.ff_lin.proofs.rows.same_rows.Goals as goal

pub returns-then-not-same_row : goal.returns-then-not-same_row
returns-then-not-same_row g c =
    let items : Vec ℕ Global → _ = λ v. v.items in (
      (λ h. absurd (cc)),
      λ h. absurd (rows-differ (g.K.Ring.elements c.args.k.now) (g.met.K.Ring.tests c.args.k.now)
          items c.args.a.now c.args.b.now c.loop-i.i c.index-a-i.result c.index-b-i.result
          c.deref.result.now c.deref-in-loop-i.result.now
          (omega arith) (omega (arith, c.requires.count)) c.index-a-i.is c.index-b-i.is
          c.deref.ensures.value c.deref-in-loop-i.ensures.value
          (λ k. true-is-false c.same_row.result c.if-not-same_row.true (c.same_row.ensures.1 k))
          h),
    )

pub loop-i-preserved : goal.loop-i-preserved
loop-i-preserved g c =
    let items : Vec ℕ Global → _ = λ v. v.items in
    rows-next (g.K.Ring.elements c.args.k.now) (g.met.K.Ring.tests c.args.k.now) items c.args.a.now
    c.args.b.now c.loop-i.i c.index-a-i.result c.index-b-i.result c.deref.result.now
    c.deref-in-loop-i.result.now
    (omega arith) (omega (arith, c.requires.count)) c.index-a-i.is c.index-b-i.is
    c.deref.ensures.value c.deref-in-loop-i.ensures.value
    (c.same_row.ensures.0 c.if-not-same_row.false) c.loop-i.invariant
