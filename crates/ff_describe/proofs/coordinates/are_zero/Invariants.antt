use Rattle.std.proofs.Common.{◌≡◌, ℕ, ◌<◌, ◌≤◌}
use Rattle.ff_theory.specs.Vector.{vector_of}
use Rattle.ff_describe.proofs.coordinates.are_zero.Given as goal

abbrev pub invariant-loop-j : goal.invariant-loop-j
invariant-loop-j g l =
    let F = g.K.Ring.elements l.k in
    record {
      start : l.from ≤ l.j;
      zeros : (i : ℕ) → l.from ≤ i → i < l.j → vector_of F l.row i ≡ F.zero;
    }
