use Rattle.std.proofs.Common.{◌≡◌, ℕ, ◌<◌}
use Rattle.ff_theory.specs.Vector.{vector_of}
use Rattle.ff_functions.proofs.echelon.leading_index.Given as goal

abbrev pub invariant-loop-j : goal.invariant-loop-j
invariant-loop-j g l =
    let F = g.K.Ring.elements l.k in
    (i : ℕ) → i < l.j → vector_of F l.v i ≡ F.zero
