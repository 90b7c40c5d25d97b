use Rattle.std.proofs.Common.{sym, ◌∙◌, arith}
use Rattle.ff_theory.proofs.Coeffs.{coeff-map, coeff-past}
use Rattle.ff_relation.proofs.reduce.entry_or_zero.Goals as goal

pub returns-then-i-list-clause-value : goal.returns-then-i-list-clause-value
returns-then-i-list-clause-value g c =
    let F = g.K.Ring.elements c.args.k.now in
    sym (coeff-map F.ring F.value c.args.list.now c.args.i 0 (omega (arith, c.if-i-list.true)))

pub returns-else-i-list-clause-value : goal.returns-else-i-list-clause-value
returns-else-i-list-clause-value g c =
    let F = g.K.Ring.elements c.args.k.now in
    c.zero.ensures.value
    ∙ sym (coeff-past F.ring F.value c.args.list.now c.args.i (omega (arith, c.if-i-list.false)))
