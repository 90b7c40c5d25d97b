use Rattle.std.proofs.Common.{◌≡◌, sym, ◌∙◌, ap, arith}
use Rattle.ff_theory.specs.Span.{unit_at}
use Rattle.ff_theory.proofs.Span.{unit-same, unit-other}
use Rattle.ff_common.proofs.held.unit_entry.Goals as goal

pub returns-then-j-s-clause-value : goal.returns-then-j-s-clause-value
returns-then-j-s-clause-value g c =
    let R = (g.K.Ring.elements c.args.k.now).ring in
    let e : c.args.j ≡ c.args.s = omega arith in
    c.one.ensures.value ∙ sym (unit-same R c.args.s) ∙ ap (unit_at R c.args.s) (sym e)

pub returns-else-j-s-clause-value : goal.returns-else-j-s-clause-value
returns-else-j-s-clause-value g c =
    let R = (g.K.Ring.elements c.args.k.now).ring in
    c.zero.ensures.value ∙ sym (unit-other R c.args.s c.args.j (λ e. absurd (omega (arith, e))))
