use Rattle.std.proofs.Common.{◌≡◌, ℕ, ◌<◌}
use Rattle.ff_theory.specs.Vector.{IsVector, vector_of}
use Rattle.ff_relation.proofs.reduce.padded.Given as goal

abbrev pub invariant-loop-i : goal.invariant-loop-i
invariant-loop-i g l = record {
  vector : IsVector (g.K.Ring.elements l.k) l.i l.padded.items;
  value : (j : ℕ) → j < l.i → vector_of (g.K.Ring.elements l.k) l.padded.items j
      ≡ vector_of (g.K.Ring.elements l.k) l.list j;
}
