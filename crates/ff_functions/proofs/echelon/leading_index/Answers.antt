use Rattle.std.proofs.Common.{sym, ◌∙◌, arith}
use Rattle.ff_lin.proofs.Steps.{nonzero_at, zero_next}
use Rattle.ff_functions.proofs.echelon.leading_index.Goals as goal

pub loop-j-init : goal.loop-j-init
loop-j-init g c = λ i l. absurd (omega (arith, l))

pub loop-j-preserved : goal.loop-j-preserved
loop-j-preserved g c =
    let F = g.K.Ring.elements c.args.k.now in
    zero_next F (g.met.K.Ring.laws c.args.k.now) (g.met.K.Ring.tests c.args.k.now) c.args.v.now
    c.loop-j.j c.loop-j-test.true (sym c.is_zero.ensures ∙ c.if-not-is_zero.false)
    c.loop-j.invariant

pub returns-then-not-is_zero-clause-nonzero : goal.returns-then-not-is_zero-clause-nonzero
returns-then-not-is_zero-clause-nonzero g c l =
    let F = g.K.Ring.elements c.args.k.now in
    nonzero_at F (g.met.K.Ring.laws c.args.k.now) (g.met.K.Ring.tests c.args.k.now) c.args.v.now
    c.loop-j.j l (sym c.is_zero.ensures ∙ c.if-not-is_zero.true)

pub returns-then-not-is_zero-clause-before : goal.returns-then-not-is_zero-clause-before
returns-then-not-is_zero-clause-before g c = c.loop-j.invariant

pub returns-clause-before : goal.returns-clause-before
returns-clause-before g c = λ j l. c.loop-j.invariant j (omega (arith, l, c.loop-j-test.false))
