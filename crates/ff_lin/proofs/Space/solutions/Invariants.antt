use Rattle.std.proofs.Common.{length}
use Rattle.ff_theory.specs.Span.{SameSpan}
use Rattle.ff_theory.specs.Vector.{vectors_of}
use Rattle.ff_lin.specs.Space.{IsSpaceOf}
use Rattle.ff_lin.specs.Kernel.{null_of}
use Rattle.ff_lin.proofs.Space.solutions.Given as goal

abbrev pub invariant-loop-f : goal.invariant-loop-f
invariant-loop-f g l = record {
  space : IsSpaceOf (g.K.Ring.elements l.k) l.self.len l.space;
  same : SameSpan (g.K.Ring.elements l.k).ring (length l.space.basis)
      (vectors_of (g.K.Ring.elements l.k) l.space.basis) l.f
      (null_of (g.K.Ring.elements l.k) l.self);
}
