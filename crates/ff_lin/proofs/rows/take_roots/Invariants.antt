use Rattle.std.proofs.Common.{◌≡◌, ℕ, ◌<◌, ◌≤◌, length, All}
use Rattle.ff_theory.specs.Ring.{IsElement}
use Rattle.ff_theory.specs.Vector.{vector_of}
use Rattle.ff_lin.specs.Space.{frobenius}
use Rattle.ff_lin.proofs.rows.take_roots.Given as goal

abbrev pub invariant-loop-j : goal.invariant-loop-j
invariant-loop-j g l = record {
  len : length l.v ≡ length l.fn.v;
  each : All (IsElement (g.K.Ring.elements l.k)) l.v;
  below : (j : ℕ) → j < l.j → frobenius (g.K.Ring.elements l.k) (vector_of (g.K.Ring.elements l.k)
      l.v) j ≡ vector_of (g.K.Ring.elements l.k) l.fn.v j;
  above : (j : ℕ) → l.j ≤ j → vector_of (g.K.Ring.elements l.k) l.v j
      ≡ vector_of (g.K.Ring.elements l.k) l.fn.v j;
}
