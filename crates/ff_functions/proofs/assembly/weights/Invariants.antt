use Rattle.std.proofs.Common.{◌≡◌, ◌≤◌, length, All}
use Rattle.ff_forms.specs.declared.functions.TheConstants.{POLE_LIMIT}
use Rattle.ff_functions.specs.Combined.{AreClassWeights}
use Rattle.ff_functions.proofs.assembly.weights.Given as goal

abbrev pub invariant-loop-i : goal.invariant-loop-i
invariant-loop-i l = record {
  count : length l.list.items ≡ l.i;
  within : All (λ m. m ≤ POLE_LIMIT) l.list.items;
  weights : AreClassWeights l.numbers l.e l.i l.list.items;
}
