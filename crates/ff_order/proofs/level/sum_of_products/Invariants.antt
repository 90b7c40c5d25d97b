use Rattle.std.proofs.Common.{◌≡◌, map}
use Rattle.ff_theory.specs.Values.{poly_of, IsPoly, plane_of}
use Rattle.ff_order.specs.Level.{test_sum}
use Rattle.ff_order.proofs.level.sum_of_products.Given as goal

abbrev pub invariant-loop-i : goal.invariant-loop-i
invariant-loop-i g l =
    let F = g.K.Ring.elements l.k in
    record {
      poly : IsPoly F l.sum;
      value : poly_of F l.sum ≡ test_sum F (map (λ v. v.items) l.lists) l.s l.i
          (plane_of F l.rows);
    }
