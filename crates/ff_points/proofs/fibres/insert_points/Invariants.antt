use Rattle.ff_lin.specs.Space.{rows_of}
use Rattle.ff_points.specs.PointLists.{AreWithCharacters}
use Rattle.ff_points.proofs.fibres.insert_points.Given as goal

abbrev pub invariant-loop-chi : goal.invariant-loop-chi
invariant-loop-chi g l =
    let F = g.K.Ring.elements l.k in
    AreWithCharacters F l.order l.a l.theta (rows_of l.basis) (rows_of l.characters) l.chi-index
    l.fn.list.items l.list.items
