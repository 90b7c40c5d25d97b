use Rattle.ff_relation.proofs.BaseLemmas.{basis-element}
use Rattle.ff_relation.proofs.bases.basis_element.Goals as goal

pub returns-clause-exact : goal.returns-clause-exact
returns-clause-exact g c = λ rank.
    let F = g.K.Ring.elements c.args.k.now in
    let L = g.K.Ring.lawful c.args.k.now in
    basis-element F L c.args.s.now c.args.i c.args.s.now.e c.in_ok-basis_vector.field-0.items rank
    c.in_ok-basis_vector.ensures
