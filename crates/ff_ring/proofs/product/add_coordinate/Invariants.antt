use Rattle.std.proofs.Common.{◌≡◌, length, All, get_or, []}
use Rattle.ff_theory.specs.Ring.{IsElement}
use Rattle.ff_theory.specs.Sum.{sum_below}
use Rattle.ff_theory.specs.Values.{poly_of, polys_over}
use Rattle.ff_ring.specs.Entries.{entry_at}
use Rattle.ff_ring.proofs.product.add_coordinate.Given as goal

abbrev pub invariant-loop-j : goal.invariant-loop-j
invariant-loop-j g l =
    let F = g.K.Ring.elements l.k in
    let P = polys_over F in
    record {
      len : length l.sum ≡ length l.fn.sum;
      each : All (IsElement F) l.sum;
      value : poly_of F l.sum ≡ P.add (poly_of F l.fn.sum) (sum_below P l.j (λ j.
          P.mul (entry_at F l.y j) (entry_at F (get_or l.products j []) l.l)));
    }
