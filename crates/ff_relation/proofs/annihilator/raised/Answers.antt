use Rattle.std.proofs.Common.{sym, ◌∙◌}
use Rattle.ff_theory.proofs.Results.{ok_map}
use Rattle.ff_relation.proofs.RestLemmas.{raised-element}
use Rattle.ff_relation.proofs.annihilator.raised.Goals as goal

pub returns-clause-exact : goal.returns-clause-exact
returns-clause-exact g c = λ rank.
    let F = g.K.Ring.elements c.args.k.now in
    let L = g.K.Ring.lawful c.args.k.now in
    let s = c.args.s.now in
    ok_map _ _ c.ring_scale.result (λ r h. raised-element F L s c.in_ok-z.z c.one.result
    c.args.c.now r.items (rank ∙ sym c.requires.c.count) c.one.ensures.value
    c.in_ok-z.ensures.value h) c.ring_scale.ensures
