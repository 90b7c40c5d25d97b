use Rattle.std.proofs.Common.{sym}
use Rattle.ff_ring.proofs.RingElements.{zero-element}
use Rattle.ff_root.proofs.state.first_state.Goals as goal

pub returns-clause-sum : goal.returns-clause-sum
returns-clause-sum g c =
    let F = g.K.Ring.elements c.args.k.now in
    let L = g.K.Ring.lawful c.args.k.now in
    let s = c.args.s.now in
    zero-element F L s c.in_ok-zero_coords.field-0.items s.e (sym c.requires.weights)
    c.in_ok-zero_coords.ensures

pub returns-clause-moved : goal.returns-clause-moved
returns-clause-moved g c = c.in_ok-items.ensures.value
