use Rattle.ff_ring.specs.Affine.{affine_at}
use Rattle.ff_ring.specs.Entries.{entry_at, AreEntries}
use Rattle.ff_ring.proofs.line.affine_each.Given as goal

abbrev pub invariant-loop-i : goal.invariant-loop-i
invariant-loop-i g l =
    let F = g.K.Ring.elements l.k in
    AreEntries F l.i (λ j. affine_at F l.alpha l.beta (entry_at F l.list j)) l.items.items
