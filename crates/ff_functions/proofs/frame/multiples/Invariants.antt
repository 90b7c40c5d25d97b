use Rattle.ff_lin.specs.Space.{AreVectors, rows_of}
use Rattle.ff_data.specs.Orders.{y_degree}
use Rattle.ff_functions.specs.Elements.{HoldMultiples}
use Rattle.ff_functions.proofs.frame.multiples.Given as goal

abbrev pub invariant-loop-i : goal.invariant-loop-i
invariant-loop-i g l =
    let F = g.K.Ring.elements l.alg.k in
    let L = g.K.Ring.lawful l.alg.k in
    AreVectors F l.len l.list.items × HoldMultiples F l.d l.l (y_degree L l.alg.f) l.m l.slope l.i
    0 (rows_of l.list.items)
