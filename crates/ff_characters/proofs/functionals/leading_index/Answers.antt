use Rattle.std.proofs.Common.{sym, ◌∙◌, ap₂, arith, below_more}
use Rattle.ff_lin.proofs.Entries.{entry}
use Rattle.ff_lin.proofs.Compare.{true-is-false}
use Rattle.ff_characters.proofs.functionals.leading_index.Goals as goal

pub returns-then-not-same-clause-nonzero : goal.returns-then-not-same-clause-nonzero
returns-then-not-same-clause-nonzero g c l z =
    let F = g.K.Ring.elements c.args.k.now in
    true-is-false _ (sym c.same.ensures ∙ c.if-not-same.true)
    (ap₂ F.same (sym (entry F c.args.v.now c.loop-j.j l) ∙ z) c.zero.ensures.value
    ∙ (g.met.K.Ring.tests c.args.k.now).same_refl F.zero)

pub loop-j-preserved : goal.loop-j-preserved
loop-j-preserved g c =
    let F = g.K.Ring.elements c.args.k.now in
    below_more _ _ c.loop-j.invariant
    (entry F c.args.v.now c.loop-j.j (omega (arith, c.loop-j-test.true))
    ∙ (g.met.K.Ring.tests c.args.k.now).same_true _ _ (sym c.same.ensures ∙ c.if-not-same.false)
    ∙ c.zero.ensures.value)
