use Rattle.std.proofs.Common.{ℕ, ◌*◌, pred, length}
use Rattle.ff_lin.specs.Space.{SpaceParts}
use Rattle.ff_data.specs.declared.point.Point.{Point}
use Rattle.ff_data.specs.Orders.{y_degree}
use Rattle.ff_functions.specs.Searches.{IsComplete, HasSearchForm, HoldSearch}
use Rattle.ff_functions.proofs.search.Search.run.Given as goal

abbrev pub invariant-loop-j : goal.invariant-loop-j
invariant-loop-j g l =
    let F = g.K.Ring.elements l.alg.k in
    let L = g.K.Ring.lawful l.alg.k in
    let c = length l.frame.numerators.items in
    record {
      form : HasSearchForm L l.alg.f l.order (y_degree L l.alg.f * l.frame.h) c l.j (pred l.j)
          l.search;
      held : (p : Point) (t : SpaceParts) (first : ℕ → ℕ → F.carrier)
          → HoldSearch L l.alg.f l.order p l.frame.h c 1 0 t first l.fn.self
          → HoldSearch L l.alg.f l.order p l.frame.h c l.j (pred l.j) t first l.search;
      incomplete : ¬ IsComplete l.search.numbers.items;
    }
