use Rattle.std.proofs.Common.{ap, arith, length, sym, ◌+◌, ◌∙◌}
use Rattle.ff_theory.proofs.Coeffs.{coeff-past}
use Rattle.ff_subst.proofs.cleared.coeff_after.Goals as goal

pub returns-then-i-len-clause-value : goal.returns-then-i-len-clause-value
returns-then-i-len-clause-value g c =
    let K = g.K.Ring.elements c.args.k.now in
    c.zero.ensures.value ∙ sym (coeff-past K.ring K.value c.args.p.now (c.args.i + c.args.j)
    (omega (arith, ap length c.coeffs-len.ensures, c.if-i-len.true)))

pub returns-then-j-len-clause-value : goal.returns-then-j-len-clause-value
returns-then-j-len-clause-value g c =
    let K = g.K.Ring.elements c.args.k.now in
    c.zero-then-j-len.ensures.value ∙ sym (coeff-past K.ring K.value c.args.p.now
    (c.args.i + c.args.j) (omega (arith, ap length c.coeffs-len.ensures, c.if-j-len.true)))
