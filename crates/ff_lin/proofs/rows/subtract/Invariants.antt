use Rattle.std.proofs.Common.{◌≡◌, ℕ, ◌<◌, ◌≤◌, length, All}
use Rattle.ff_theory.specs.Ring.{IsElement}
use Rattle.ff_theory.specs.Span.{less}
use Rattle.ff_theory.specs.Vector.{vector_of}
use Rattle.ff_lin.proofs.rows.subtract.Given as goal

abbrev pub invariant-loop-j : goal.invariant-loop-j
invariant-loop-j g l = record {
  len : length l.v ≡ length l.fn.v;
  each : All (IsElement (g.K.Ring.elements l.k)) l.v;
  factor : IsElement (g.K.Ring.elements l.k) l.factor;
  below : (j : ℕ) → j < l.j → vector_of (g.K.Ring.elements l.k) l.v j
      ≡ less (g.K.Ring.elements l.k).ring (vector_of (g.K.Ring.elements l.k) l.fn.v)
      ((g.K.Ring.elements l.k).value l.fn.c) (vector_of (g.K.Ring.elements l.k) l.w) j;
  above : (j : ℕ) → l.j ≤ j → vector_of (g.K.Ring.elements l.k) l.v j
      ≡ vector_of (g.K.Ring.elements l.k) l.fn.v j;
}
