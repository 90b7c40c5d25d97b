use Rattle.std.proofs.Common.{sym, ◌∙◌, ap₂, arith}
use Rattle.ff_lin.proofs.Entries.{entry}
use Rattle.ff_modulo.proofs.bases.tail_after_unit.Goals as goal

pub returns-then-is_zero-clause-none : goal.returns-then-is_zero-clause-none
returns-then-is_zero-clause-none g c =
    let F = g.K.Ring.elements c.args.k.now in
    entry F c.args.v.now 0 (omega (arith, c.requires.nonempty))
    ∙ (g.met.K.Ring.tests c.args.k.now).same_true _ _ (sym c.is_zero.ensures ∙ c.if-is_zero.true)
