use Rattle.std.proofs.Common.{length, map}
use Rattle.ff_theory.specs.Span.{SameSpan}
use Rattle.ff_theory.specs.Vector.{vectors_of}
use Rattle.ff_lin.specs.Space.{IsSpaceOf, combinations_of}
use Rattle.ff_data.proofs.combine.combinations.Given as goal

abbrev pub invariant-loop-c : goal.invariant-loop-c
invariant-loop-c g l =
    let F = g.K.Ring.elements l.k in
    record {
      space : IsSpaceOf F l.n l.space;
      same : SameSpan F.ring (length l.space.basis) (vectors_of F l.space.basis) l.c-index
          (combinations_of F (map (λ v. v.items) l.vectors)
          (map (λ v. v.items) l.coefficients));
    }
