use Rattle.std.proofs.Common.{length, sym, ◌∙◌, ap}
use Rattle.ff_theory.proofs.Results.{ok_map}
use Rattle.ff_ring.specs.Ring.{element_in}
use Rattle.ff_relation.specs.InRing.{multiple_in}
use Rattle.ff_relation.proofs.BaseLemmas.{basis-element, multiple-element}
use Rattle.ff_relation.proofs.relations.basis_multiple.Goals as goal

pub returns-clause-exact : goal.returns-clause-exact
returns-clause-exact g c = λ rank.
    let F = g.K.Ring.elements c.args.k.now in
    let L = g.K.Ring.lawful c.args.k.now in
    let s = c.args.s.now in
    let q = c.args.q.now in
    let unit = c.in_ok-unit.unit.items in
    let u = c.in_ok-unit.ensures in
    let v = c.deref.ensures.value in
    ok_map _ _ c.ring_scale.result (λ r h.
    multiple-element F L s q c.deref.result.now r.items (length c.deref.result.now)
    (rank ∙ sym u.count ∙ ap length (sym v)) h
    ∙ ap (multiple_in F s q) (ap (element_in F s) v ∙ basis-element F L s c.args.i s.e unit rank u))
    c.ring_scale.ensures
