use Rattle.std.proofs.Common.{◌∙◌, ap, arith}
use Rattle.ff_theory.specs.Values.{poly_of}
use Rattle.ff_ring.specs.Entries.{entry_at}
use Rattle.ff_relation.proofs.RelationLemmas.{minus-one}
use Rattle.ff_relation.proofs.relations.negative.Goals as goal

pub returns-clause-value : goal.returns-clause-value
returns-clause-value g c = λ l q.
    let F = g.K.Ring.elements c.args.k.now in
    let L = g.K.Ring.lawful c.args.k.now in
    minus-one F L (poly_of F c.in_ok-minus.minus) (entry_at F c.args.c.now l)
    (entry_at F c.in_ok-ring_scale.field-0.items l) c.neg.result
    (c.neg.ensures.value ∙ ap F.neg c.one.ensures.value) c.in_ok-minus.ensures.value
    (c.in_ok-ring_scale.ensures.value l (omega (arith, q, c.requires.c.count)))
