use Rattle.std.proofs.Common.{◌≡◌, length, All}
use Rattle.ff_theory.specs.Ring.{IsElement}
use Rattle.ff_ring.proofs.product.zeros.Given as goal

abbrev pub invariant-loop-j : goal.invariant-loop-j
invariant-loop-j g l =
    let F = g.K.Ring.elements l.k in
    record {
      len : length l.zeros.items ≡ l._j;
      each : All (IsElement F) l.zeros.items;
      zeros : All (λ e. F.value e ≡ F.zero) l.zeros.items;
    }
