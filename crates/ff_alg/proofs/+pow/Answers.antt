use Rattle.std.proofs.Common.{◌∙◌, ap, ◌/◌}
use Rattle.ff_theory.specs.Ring.{power}
use Rattle.ff_theory.proofs.Powers.{power-even, power-odd}
use Rattle.ff_alg.proofs.+pow.Goals as goal

pub returns-then-n-eq0-2-clause-value : goal.returns-then-n-eq0-2-clause-value
returns-then-n-eq0-2-clause-value g t c =
    let K = g.K.Ring.elements c.args.k.now in
    c.pow-half.ensures.value ∙ ap (λ x. power K.ring x (c.args.n / 2)) c.mul.ensures.value
    ∙ power-even K.ring (g.met.K.Ring.laws c.args.k.now) (K.value c.args.a) c.args.n
    c.if-n-eq0-2.true

pub returns-else-n-eq0-2-clause-value : goal.returns-else-n-eq0-2-clause-value
returns-else-n-eq0-2-clause-value g t c =
    let K = g.K.Ring.elements c.args.k.now in
    c.mul-else-n-eq0-2.ensures.value
    ∙ ap (K.mul (K.value c.args.a)) (c.pow-half.ensures.value
    ∙ ap (λ x. power K.ring x (c.args.n / 2)) c.mul.ensures.value)
    ∙ power-odd K.ring (g.met.K.Ring.laws c.args.k.now) (K.value c.args.a) c.args.n
    c.if-n-eq0-2.false
