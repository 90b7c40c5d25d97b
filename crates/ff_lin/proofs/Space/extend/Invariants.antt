use Rattle.std.proofs.Common.{◌+◌, ◌++◌, length, map}
use Rattle.ff_theory.specs.Span.{SameSpan}
use Rattle.ff_theory.specs.Vector.{vectors_of}
use Rattle.ff_lin.specs.Space.{IsSpaceOf}
use Rattle.ff_lin.proofs.Space.extend.Given as goal

abbrev pub invariant-loop-row : goal.invariant-loop-row
invariant-loop-row g l = record {
  space : IsSpaceOf (g.K.Ring.elements l.k) l.fn.self.len l.space;
  same : SameSpan (g.K.Ring.elements l.k).ring (length l.space.basis)
      (vectors_of (g.K.Ring.elements l.k) l.space.basis) (length l.fn.self.basis + l.row-index)
      (vectors_of (g.K.Ring.elements l.k) (l.fn.self.basis ++ map (λ v. v.items) l.rows));
}
