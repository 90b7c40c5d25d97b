use Rattle.std.proofs.Common.{◌≡◌, ℕ, ◌-◌, ◌<◌, length, map, All}
use Rattle.ff_theory.specs.Ring.{IsElement}
use Rattle.ff_theory.specs.Poly.{coeff}
use Rattle.ff_data.proofs.quotients.reversal_of.Given as goal

abbrev pub invariant-loop-j : goal.invariant-loop-j
invariant-loop-j g l =
    let F = g.K.Ring.elements l.k in
    record {
      len : length l.list.items ≡ l.j;
      each : All (IsElement F) l.list.items;
      entries : (i : ℕ) → i < l.j → coeff F.ring (map F.value l.list.items) i
          ≡ coeff F.ring (map F.value l.p) (l.m - i);
    }
