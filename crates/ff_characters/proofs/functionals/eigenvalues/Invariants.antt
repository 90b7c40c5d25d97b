use Rattle.std.proofs.Common.{◌≡◌, ℕ, ◌<◌, [], length, get_or, All}
use Rattle.ff_theory.specs.Ring.{IsElement}
use Rattle.ff_theory.specs.Vector.{vector_of}
use Rattle.ff_characters.specs.Characters.{tables_of, IsEigenvector}
use Rattle.ff_characters.proofs.functionals.eigenvalues.Given as goal

abbrev pub invariant-loop-i : goal.invariant-loop-i
invariant-loop-i g l =
    let F = g.K.Ring.elements l.k in
    record {
      len : length l.values.items ≡ l.i;
      each : All (IsElement F) l.values.items;
      value : (i : ℕ) → i < l.i → (c : F.carrier) → IsEigenvector F (length l.v)
          (get_or (tables_of l.table) i []) c (vector_of F l.v)
          → vector_of F l.values.items i ≡ c;
    }
