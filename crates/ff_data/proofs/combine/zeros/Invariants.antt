use Rattle.std.proofs.Common.{◌≡◌, ℕ, ◌<◌, length, All}
use Rattle.ff_theory.specs.Ring.{IsElement}
use Rattle.ff_theory.specs.Vector.{vector_of}
use Rattle.ff_data.proofs.combine.zeros.Given as goal

abbrev pub invariant-loop-j : goal.invariant-loop-j
invariant-loop-j g l = record {
  len : length l.zeros.items ≡ l._j;
  each : All (IsElement (g.K.Ring.elements l.k)) l.zeros.items;
  value : (j : ℕ) → j < l._j → vector_of (g.K.Ring.elements l.k) l.zeros.items j
      ≡ (g.K.Ring.elements l.k).zero;
}
