use Rattle.std.proofs.Common.{◌≡◌, ℕ, ◌<◌}
use Rattle.ff_theory.specs.Vector.{vector_of}
use Rattle.ff_characters.proofs.functionals.leading_index.Given as goal

abbrev pub invariant-loop-j : goal.invariant-loop-j
invariant-loop-j g l =
    let F = g.K.Ring.elements l.k in
    (j : ℕ) → j < l.j → vector_of F l.v j ≡ F.zero
