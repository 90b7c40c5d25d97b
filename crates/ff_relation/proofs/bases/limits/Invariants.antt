use Rattle.std.proofs.Common.{◌≡◌, ℕ, ◌-◌, ◌*◌, ◌/◌, ◌<◌, length}
use Rattle.ff_data.specs.Systems.{weight_at}
use Rattle.ff_relation.specs.InRing.{number_at}
use Rattle.ff_relation.proofs.bases.limits.Given as goal

abbrev pub invariant-loop-l : goal.invariant-loop-l
invariant-loop-l l = record {
  count : length l.limits.items ≡ l.l;
  value : (i : ℕ) → i < l.l → number_at l.limits.items i
      ≡ (number_at l.exponents i * l.weight - weight_at l.s i) / l.s.e;
}
