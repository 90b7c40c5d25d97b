use Rattle.std.proofs.Common.{[], get_or, length, ℕ, ◌<◌, ◌≡◌}
use Rattle.ff_subst.specs.Cleared.{IsMultipleBy}
use Rattle.ff_subst.specs.Congruence.{ArePlanes}
use Rattle.ff_subst.proofs.cleared.products.Given as goal

abbrev pub invariant-loop-plane : goal.invariant-loop-plane
invariant-loop-plane g l = record {
  count : length l.products.items ≡ l.plane-index;
  each : ArePlanes (g.K.Ring.elements l.k) l.products.items;
  value : (j : ℕ) → j < l.plane-index → IsMultipleBy (g.K.Ring.elements l.k) l.c
      (get_or l.planes j []) (get_or l.products.items j []);
}
