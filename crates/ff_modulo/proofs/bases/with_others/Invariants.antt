use Rattle.std.proofs.Common.{◌≡◌, suc, ◌∷◌, length, take}
use Rattle.ff_lin.specs.Space.{rows_of}
use Rattle.ff_modulo.proofs.bases.with_others.Given as goal

abbrev pub invariant-loop-v : goal.invariant-loop-v
invariant-loop-v l = record {
  len : length l.list.items ≡ suc l.v-index;
  value : rows_of l.list.items ≡ l.fn.first.items ∷ take l.v-index (rows_of l.others);
}
