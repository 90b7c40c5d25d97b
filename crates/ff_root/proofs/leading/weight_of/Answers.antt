use Rattle.ff_root.proofs.LeadLemmas.{weight_by-top, weight_by-zero}
use Rattle.ff_root.proofs.leading.weight_of.Goals as goal

pub returns-in-Some : goal.returns-in-Some
returns-in-Some g c = λ rule.
    let F = g.K.Ring.elements c.args.k.now in
    let L = g.K.Ring.lawful c.args.k.now in
    weight_by-top F L c.args.s.now c.requires.table rule c.args.h.now c.in-Some.term c.args.more
    c.requires.h c.in-Some.ensures

pub returns-in-None : goal.returns-in-None
returns-in-None g c = λ rule.
    let F = g.K.Ring.elements c.args.k.now in
    let L = g.K.Ring.lawful c.args.k.now in
    weight_by-zero F L c.args.s.now c.requires.table rule c.args.h.now c.args.more c.requires.h
    c.in-None.ensures
