use Rattle.std.proofs.Common.{refl, sym, ◌∙◌, arith}
use Rattle.ff_lin.proofs.Compare.{row-next, row-differs, row-all}
use Rattle.ff_lin.proofs.rows.same_row.Goals as goal

pub returns-then-not-same : goal.returns-then-not-same
returns-then-not-same g c =
    let K = g.K.Ring.elements c.args.k.now in (
      (λ h. absurd (cc)),
      λ h. absurd
          (row-differs K (g.met.K.Ring.tests c.args.k.now) c.args.v.now c.args.w.now c.loop-j.j
          (omega arith) c.requires.w.len (sym c.same.ensures ∙ c.if-not-same.true) h),
    )

pub loop-j-preserved : goal.loop-j-preserved
loop-j-preserved g c =
    row-next (g.K.Ring.elements c.args.k.now) (g.met.K.Ring.tests c.args.k.now) c.args.v.now
    c.args.w.now c.loop-j.j (omega arith) c.requires.w.len
    (sym c.same.ensures ∙ c.if-not-same.false) c.loop-j.invariant

pub returns : goal.returns
returns g c = (
  (λ h. row-all (g.K.Ring.elements c.args.k.now) (g.met.K.Ring.tests c.args.k.now) c.args.v.now
      c.args.w.now c.loop-j.j (omega arith) c.requires.w.len c.loop-j.invariant),
  λ h. refl,
)
