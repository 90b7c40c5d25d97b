use Rattle.std.proofs.Common.{◌≡◌, ◌<◌, length, All}
use Rattle.ff_poles.specs.Spaces.{AreLeastIndices}
use Rattle.ff_poles.proofs.numbers.least_numbers.Given as goal

abbrev pub invariant-loop-i : goal.invariant-loop-i
invariant-loop-i l = record {
  count : length l.numbers.items ≡ l.i;
  within : All (λ m. m < length l.spaces) l.numbers.items;
  least : AreLeastIndices l.spaces l.e l.i l.numbers.items;
}
