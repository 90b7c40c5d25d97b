use Rattle.std.proofs.Common.{length, map}
use Rattle.ff_theory.specs.Span.{SameSpan}
use Rattle.ff_theory.specs.Vector.{vectors_of}
use Rattle.ff_lin.specs.Space.{IsSpaceOf}
use Rattle.ff_lin.specs.Kernel.{mirrored_rows}
use Rattle.ff_lin.proofs.Space.mirrored_span.Given as goal

abbrev pub invariant-loop-row : goal.invariant-loop-row
invariant-loop-row g l = record {
  space : IsSpaceOf (g.K.Ring.elements l.k) l.n l.space;
  same : SameSpan (g.K.Ring.elements l.k).ring (length l.space.basis)
      (vectors_of (g.K.Ring.elements l.k) l.space.basis) l.row-index
      (mirrored_rows (g.K.Ring.elements l.k) l.n (map (λ v. v.items) l.rows));
}
