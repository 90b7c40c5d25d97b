use Rattle.std.proofs.Common.{◌≡◌, take, All}
use Rattle.ff_theory.specs.Values.{poly_of, IsPoly, polys_of, products_with}
use Rattle.ff_poly.proofs.lowest.quotients.Given as goal

abbrev pub invariant-loop-p : goal.invariant-loop-p
invariant-loop-p g l =
    let K = g.K.Ring.elements l.k in
    record {
      each : All (λ p. IsPoly K p) l.quotients.items;
      value : products_with K (poly_of K l.b) l.quotients.items
          ≡ polys_of K (take l.p-index l.list);
    }
