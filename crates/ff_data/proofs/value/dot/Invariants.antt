use Rattle.std.proofs.Common.{◌≡◌}
use Rattle.ff_theory.specs.Ring.{IsElement}
use Rattle.ff_theory.specs.Span.{product}
use Rattle.ff_theory.specs.Vector.{vector_of}
use Rattle.ff_data.proofs.value.dot.Given as goal

abbrev pub invariant-loop-i : goal.invariant-loop-i
invariant-loop-i g l =
    let F = g.K.Ring.elements l.k in
    record {
      element : IsElement F l.sum;
      value : F.value l.sum ≡ product F.ring l.i (vector_of F l.a) (vector_of F l.b);
    }
