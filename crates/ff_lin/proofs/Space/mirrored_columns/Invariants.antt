use Rattle.std.proofs.Common.{length, map}
use Rattle.ff_theory.specs.Span.{SameSpan}
use Rattle.ff_theory.specs.Vector.{vectors_of}
use Rattle.ff_lin.specs.Space.{IsSpaceOf}
use Rattle.ff_lin.specs.Kernel.{mirrored_columns}
use Rattle.ff_lin.proofs.Space.mirrored_columns.Given as goal

abbrev pub invariant-loop-j : goal.invariant-loop-j
invariant-loop-j g l = record {
  space : IsSpaceOf (g.K.Ring.elements l.k) (length l.images) l.space;
  same : SameSpan (g.K.Ring.elements l.k).ring (length l.space.basis)
      (vectors_of (g.K.Ring.elements l.k) l.space.basis) l.j
      (mirrored_columns (g.K.Ring.elements l.k) (map (λ v. v.items) l.images));
}
