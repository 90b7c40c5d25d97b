use Rattle.std.proofs.Common.{◌∙◌, ap, ap₂}
use Rattle.ff_root.proofs.LeadLemmas.{product-constant}
use Rattle.ff_root.proofs.leading.product_lead.Goals as goal

pub returns-clause-value : goal.returns-clause-value
returns-clause-value g c = λ rule.
    let F = g.K.Ring.elements c.args.k.now in
    let L = g.K.Ring.lawful c.args.k.now in
    let a = c.args.a in
    let b = c.args.b in
    c.mul-2.ensures.value ∙ ap₂ F.mul c.mul.ensures.value (c.factor-factor.ensures.value
    ∙ product-constant F L c.args.s.now c.requires.table rule a.class b.class
    c.class_sum-class.result c.requires.a.class c.requires.b.class c.class_sum-class.ensures.value)
