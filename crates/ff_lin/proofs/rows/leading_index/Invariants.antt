use Rattle.std.proofs.Common.{◌≡◌, ℕ, ◌<◌}
use Rattle.ff_theory.specs.Vector.{vector_of}
use Rattle.ff_lin.proofs.rows.leading_index.Given as goal

abbrev pub invariant-loop-j : goal.invariant-loop-j
invariant-loop-j g l = (j : ℕ) → j < l.j → vector_of (g.K.Ring.elements l.k) l.v j
    ≡ (g.K.Ring.elements l.k).zero
