use Rattle.std.proofs.Common.{◌≡◌, ℕ, ◌<◌, length, get_or, Some}
use Rattle.ff_elem.specs.declared.elem.Elem.{Elem}
use Rattle.ff_poles.specs.Spaces.{IsFunctionWhere}
use Rattle.ff_data.specs.Combinations.{AreElems}
use Rattle.ff_poles.proofs.spaces.functions_for.Given as goal

abbrev pub invariant-loop-i : goal.invariant-loop-i
invariant-loop-i g l = record {
  count : length l.list.items ≡ l.i;
  elems : AreElems (g.K.Ring.lawful l.alg.k) l.alg.f l.list.items;
  each : (i : ℕ) (d : Elem) → i < l.i → IsFunctionWhere (g.K.Ring.lawful l.alg.k) l.alg.f l.spaces
      (get_or l.numbers i 0) (Some (get_or l.list.items i d));
}
