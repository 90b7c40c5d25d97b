use Rattle.std.proofs.Common.{◌≡◌, ℕ, ◌<◌, map}
use Rattle.ff_theory.specs.Vector.{vectors_of}
use Rattle.ff_lin.proofs.rows.same_rows.Given as goal

abbrev pub invariant-loop-i : goal.invariant-loop-i
invariant-loop-i g l = (i j : ℕ) → i < l.i
    → vectors_of (g.K.Ring.elements l.k) (map (λ v. v.items) l.a) i j
    ≡ vectors_of (g.K.Ring.elements l.k) (map (λ v. v.items) l.b) i j
