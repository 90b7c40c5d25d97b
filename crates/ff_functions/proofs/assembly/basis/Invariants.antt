use Rattle.std.proofs.Common.{◌≡◌, length}
use Rattle.ff_data.specs.Combinations.{AreElems}
use Rattle.ff_functions.specs.Combined.{AreClassFunctions}
use Rattle.ff_functions.proofs.assembly.basis.Given as goal

abbrev pub invariant-loop-i : goal.invariant-loop-i
invariant-loop-i g l = record {
  elems : AreElems (g.K.Ring.lawful l.alg.k) l.alg.f l.list.items;
  count : length l.list.items ≡ l.i;
  functions : AreClassFunctions (g.K.Ring.lawful l.alg.k) l.alg.f l.order.chart l.finite.d l.frame
      l.search l.e l.i l.list.items;
}
