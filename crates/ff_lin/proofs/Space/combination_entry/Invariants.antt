use Rattle.std.proofs.Common.{◌≡◌, get_or}
use Rattle.ff_theory.specs.Ring.{IsElement}
use Rattle.ff_theory.specs.Span.{combination}
use Rattle.ff_theory.specs.Vector.{vector_of, vectors_of}
use Rattle.ff_lin.proofs.Space.combination_entry.Given as goal

abbrev pub invariant-loop-i : goal.invariant-loop-i
invariant-loop-i g l = record {
  element : IsElement (g.K.Ring.elements l.k) l.sum;
  value : (g.K.Ring.elements l.k).value l.sum
      ≡ combination (g.K.Ring.elements l.k).ring l.i
      (λ i. vector_of (g.K.Ring.elements l.k) l.v (get_or l.self.pivots i 0))
      (vectors_of (g.K.Ring.elements l.k) l.self.basis) l.j;
}
