use Rattle.std.proofs.Common.{◌≡◌, ℕ, ◌<◌, length, get_or}
use Rattle.ff_elem.specs.declared.elem.Elem.{Elem}
use Rattle.ff_data.specs.Combinations.{AreElems}
use Rattle.ff_const.specs.Fixed.{IsDifference}
use Rattle.ff_const.proofs.fixed.differences.Given as goal

abbrev pub invariant-loop-w : goal.invariant-loop-w
invariant-loop-w g l =
    let L = g.K.Ring.lawful l.alg.k in
    let f = l.alg.f in
    record {
      elems : AreElems L f l.differences.items;
      count : length l.differences.items ≡ l.w-index;
      each : (d : Elem) (j : ℕ) → j < l.w-index
          → IsDifference L f (get_or l.list j d) (get_or l.differences.items j d);
    }
