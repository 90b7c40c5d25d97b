use Rattle.std.proofs.Common.{◌≡◌, ℕ}
use Rattle.ff_theory.specs.Vector.{vector_of, IsVector}
use Rattle.ff_lin.specs.Kernel.{null_before}
use Rattle.ff_lin.proofs.Space.fill_null.Given as goal

abbrev pub invariant-loop-i : goal.invariant-loop-i
invariant-loop-i g l = record {
  vector : IsVector (g.K.Ring.elements l.k) l.self.len l.v;
  value : (j : ℕ) → vector_of (g.K.Ring.elements l.k) l.v j
      ≡ null_before (g.K.Ring.elements l.k) l.self l.i l.f j;
}
