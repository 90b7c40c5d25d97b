use Rattle.std.proofs.Common.{◌≡◌, ℕ, ◌<◌, length}
use Rattle.ff_theory.specs.Span.{product}
use Rattle.ff_theory.specs.Vector.{vector_of, vectors_of}
use Rattle.ff_lin.specs.Space.{rows_of}
use Rattle.ff_characters.proofs.functionals.is_eigenvector.Given as goal

abbrev pub invariant-loop-j : goal.invariant-loop-j
invariant-loop-j g l =
    let F = g.K.Ring.elements l.k in
    (j : ℕ) → j < l.j → product F.ring (length l.matrix) (vectors_of F (rows_of l.matrix) j)
    (vector_of F l.v) ≡ F.mul (F.value l.c) (vector_of F l.v j)
