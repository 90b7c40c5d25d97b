use Rattle.std.proofs.Common.{◌∙◌, refl, arith, []}
use Rattle.std.proofs.lemmas.List.{get_or_default}
use Rattle.ff_root.specs.declared.leading.Lead.{Lead}
use Rattle.ff_root.proofs.LeadLemmas.{coefficient-zero, coefficient-other, coefficient-reached}
use Rattle.ff_root.proofs.leading.coefficient_at.Goals as goal

pub returns-then-term-more-clause-value : goal.returns-then-term-more-clause-value
returns-then-term-more-clause-value g c = λ rule.
    let F = g.K.Ring.elements c.args.k.now in
    let L = g.K.Ring.lawful c.args.k.now in
    coefficient-other F L c.args.s.now c.requires.table rule c.args.h.now c.in-Some.term
    c.args.power
    c.args.more c.args.n c.zero.result c.requires.h c.in-Some.ensures
    (λ z. omega (arith, c.if-term-more.true, z)) c.zero.ensures.value

pub returns-else-term-more-clause-value : goal.returns-else-term-more-clause-value
returns-else-term-more-clause-value g c = λ rule.
    let F = g.K.Ring.elements c.args.k.now in
    let L = g.K.Ring.lawful c.args.k.now in
    let term = c.in-Some.term in
    let h = c.args.h.now in
    let x = c.index-h-term.result in
    let lead : Lead = record { class = term.class; c = c.leading_coefficient.result } in
    coefficient-reached F L c.args.s.now c.requires.table rule h term c.args.power lead x
    c.args.more c.args.n c.product_lead.result.c c.requires.h c.in-Some.ensures
    c.if-term-more.false refl c.leading_coefficient.ensures.value
    (c.index-h-term.is ∙ get_or_default h term.class x [] c.in-Some.ensures.below)
    (c.product_lead.ensures.value rule)

pub returns-in-None-clause-value : goal.returns-in-None-clause-value
returns-in-None-clause-value g c = λ rule.
    let F = g.K.Ring.elements c.args.k.now in
    let L = g.K.Ring.lawful c.args.k.now in
    coefficient-zero F L c.args.s.now c.requires.table rule c.args.h.now c.args.power
    c.args.more c.args.n c.zero-in-None.result c.requires.h c.in-None.ensures
    c.zero-in-None.ensures.value
