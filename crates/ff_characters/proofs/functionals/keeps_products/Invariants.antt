use Rattle.std.proofs.Common.{ℕ, ◌<◌, [], length, get_or}
use Rattle.ff_theory.specs.Vector.{vector_of}
use Rattle.ff_characters.specs.Characters.{tables_of, IsEigenvector}
use Rattle.ff_characters.proofs.functionals.keeps_products.Given as goal

abbrev pub invariant-loop-i : goal.invariant-loop-i
invariant-loop-i g l =
    let F = g.K.Ring.elements l.k in
    (i : ℕ) → i < l.i → IsEigenvector F (length l.chi) (get_or (tables_of l.table) i [])
    (vector_of F l.chi i) (vector_of F l.chi)
