use Rattle.std.proofs.Common.{◌≡◌, ℕ, ◌<◌, length, get_or, []}
use Rattle.ff_elem.specs.declared.elem.Elem.{Elem}
use Rattle.ff_data.specs.Vectors.{IsNumerator}
use Rattle.ff_data.proofs.vectors.numerators.Given as goal

abbrev pub invariant-loop-w : goal.invariant-loop-w
invariant-loop-w g l = record {
  count : length l.numerators.items ≡ l.w-index;
  each : (j : ℕ) → j < l.w-index → (d : Elem) → IsNumerator (g.K.Ring.lawful l.alg.k) l.alg.f l.den
      (get_or l.list j d) (get_or l.numerators.items j []);
}
