use Rattle.std.proofs.Common.{ℕ, List, ◌*◌}
use Rattle.ff_lin.specs.Space.{AreVectors, rows_of}
use Rattle.ff_data.specs.Orders.{y_degree, slope_of}
use Rattle.ff_functions.specs.Elements.{HoldMultiples}
use Rattle.ff_functions.proofs.FrameLists.{AreUpTo}
use Rattle.ff_functions.proofs.frame.with_vectors.Given as goal

abbrev pub invariant-loop-v : goal.invariant-loop-v
invariant-loop-v g l =
    let F = g.K.Ring.elements l.alg.k in
    let L = g.K.Ring.lawful l.alg.k in
    let f = l.alg.f in
    AreVectors F (y_degree L f * l.l) l.list.items × ((d : List ℕ) (m : ℕ)
    → HoldMultiples F d l.l (y_degree L f) m (slope_of L f) (y_degree L f) 0
    (rows_of l.fn.list.items) → AreUpTo F L f d m l.short l.l (rows_of l.vectors) l.v-index
    (rows_of l.list.items))
