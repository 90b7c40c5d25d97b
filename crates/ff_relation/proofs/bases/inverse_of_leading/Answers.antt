use Rattle.ff_relation.proofs.BaseLemmas.{lead-inverse, top-none}
use Rattle.ff_relation.proofs.bases.inverse_of_leading.Goals as goal

pub returns-in-Some-clause-value : goal.returns-in-Some-clause-value
returns-in-Some-clause-value g c = λ rule table t h.
    let F = g.K.Ring.elements c.args.k.now in
    let L = g.K.Ring.lawful c.args.k.now in
    lead-inverse F L c.args.s.now table.weights rule c.args.c.now c.in-Some.term t
    c.index-c-term.result c.leading_coefficient.result c.inverse_or_zero.result c.requires.c
    c.in-Some.ensures h c.index-c-term.is c.leading_coefficient.ensures.value
    c.inverse_or_zero.ensures.value

pub returns-in-None-clause-value : goal.returns-in-None-clause-value
returns-in-None-clause-value g c = λ rule table t h.
    let F = g.K.Ring.elements c.args.k.now in
    let L = g.K.Ring.lawful c.args.k.now in
    absurd (top-none F L c.args.s.now table.weights rule c.args.c.now t c.requires.c
    c.in-None.ensures h)
