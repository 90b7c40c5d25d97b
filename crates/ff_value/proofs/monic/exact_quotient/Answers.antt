use Rattle.std.proofs.Common.{◌≡◌, true, false, sym, ◌∙◌}
use Rattle.ff_value.proofs.ExactQuotients.{no_multiple}
use Rattle.ff_value.proofs.monic.exact_quotient.Goals as goal

pub returns-else-same-clause-none : goal.returns-else-same-clause-none
returns-else-same-clause-none g c =
    no_multiple (g.K.Ring.elements c.args.k.now) (g.K.Ring.lawful c.args.k.now)
    (g.met.K.Ring.one_value c.args.k.now) c.args.a.now c.in_ok-quotients.quotients
    c.in_ok-scale.field-0 c.args.by.now c.requires.a c.in_ok-scale.ensures.plane c.requires.by
    c.requires.nonzero c.in_ok-quotients.ensures.value c.in_ok-scale.ensures.value
    (λ e. let t : c.same-2.result ≡ true = c.same-2.ensures.1 e in
    let n : true ≡ false = sym t ∙ c.if-same.false in cc)
