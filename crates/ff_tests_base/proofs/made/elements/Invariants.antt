-- The elements so far.
use Rattle.std.proofs.Common.{◌≡◌, length, All}
use Rattle.ff_theory.specs.Ring.{IsElement}
use Rattle.ff_theory.specs.PrimeTable.{prime_elements}
use Rattle.ff_tests_base.proofs.made.elements.Given as goal

abbrev pub invariant-loop-i : goal.invariant-loop-i
invariant-loop-i l = record {
  len : length l.items.items ≡ l.i-index;
  each : All (IsElement (prime_elements l.k.number)) l.items.items;
}
