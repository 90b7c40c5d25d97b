use Rattle.std.proofs.Common.{◌≡◌, ℕ, ◌*◌, ◌%◌, ◌<◌, length, All}
use Rattle.ff_relation.specs.InRing.{number_at}
use Rattle.ff_relation.proofs.bases.enter_exponents.Given as goal

abbrev pub invariant-loop-j : goal.invariant-loop-j
invariant-loop-j l = record {
  count : length l.exponents ≡ l.e;
  each : All (λ j. j < l.e) l.exponents;
  class : (i : ℕ) → i < l.j
      → (number_at l.exponents ((i * l.weight) % l.e) * l.weight) % l.e ≡ (i * l.weight) % l.e;
}
