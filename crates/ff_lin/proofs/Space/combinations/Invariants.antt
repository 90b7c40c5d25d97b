use Rattle.std.proofs.Common.{length, map}
use Rattle.ff_theory.specs.Span.{SameSpan}
use Rattle.ff_theory.specs.Vector.{vectors_of}
use Rattle.ff_lin.specs.Space.{IsSpaceOf, combinations_of}
use Rattle.ff_lin.proofs.Space.combinations.Given as goal

abbrev pub invariant-loop-c : goal.invariant-loop-c
invariant-loop-c g l = record {
  space : IsSpaceOf (g.K.Ring.elements l.k) l.self.len l.space;
  same : SameSpan (g.K.Ring.elements l.k).ring (length l.space.basis)
      (vectors_of (g.K.Ring.elements l.k) l.space.basis) l.c-index
      (combinations_of (g.K.Ring.elements l.k) l.self.basis (map (λ c. c.items) l.coefficients));
}
