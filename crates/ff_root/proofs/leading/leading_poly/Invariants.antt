use Rattle.std.proofs.Common.{◌≡◌, ◌<◌, length, map, All, ℕ}
use Rattle.ff_theory.specs.Ring.{IsElement}
use Rattle.ff_theory.specs.Poly.{coeff}
use Rattle.ff_table.specs.Roots.{leading_poly}
use Rattle.ff_ring.specs.Ring.{MeetsRule, table_in, elements_in}
use Rattle.ff_root.specs.States.{IsLead, IsPowerLead}
use Rattle.ff_root.proofs.leading.leading_poly.Given as goal

abbrev pub invariant-loop-i : goal.invariant-loop-i
invariant-loop-i g l =
    let F = g.K.Ring.elements l.k in
    record {
      count : length l.list.items ≡ l.i;
      each : All (IsElement F) l.list.items;
      power : IsLead F l.s l.power;
      lead : MeetsRule F l.s → IsPowerLead F l.s l.t l.i l.power;
      value : MeetsRule F l.s → (j : ℕ) → j < l.i → coeff F.ring (map F.value l.list.items) j
          ≡ coeff F.ring (leading_poly F.ring (table_in F l.s) l.t (elements_in F l.s l.p)) j;
    }
