use Rattle.std.proofs.Common.{sym, ◌∙◌, arith}
use Rattle.ff_lin.proofs.Steps.{nonzero_at, zero_next}
use Rattle.ff_lin.proofs.rows.leading_index.Goals as goal

pub returns-then-not-is_zero-clause-nonzero : goal.returns-then-not-is_zero-clause-nonzero
returns-then-not-is_zero-clause-nonzero g c l =
    let K = g.K.Ring.elements c.args.k.now in
    nonzero_at K (g.met.K.Ring.laws c.args.k.now) (g.met.K.Ring.tests c.args.k.now) c.args.v.now
    c.loop-j.j l (sym c.is_zero.ensures ∙ c.if-not-is_zero.true)

pub loop-j-preserved : goal.loop-j-preserved
loop-j-preserved g c =
    let K = g.K.Ring.elements c.args.k.now in
    zero_next K (g.met.K.Ring.laws c.args.k.now) (g.met.K.Ring.tests c.args.k.now) c.args.v.now
    c.loop-j.j (omega arith) (sym c.is_zero.ensures ∙ c.if-not-is_zero.false) c.loop-j.invariant
