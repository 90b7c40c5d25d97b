use Rattle.std.proofs.Common.{◌≡◌, ℕ, ◌<◌, [], length, get_or}
use Rattle.ff_theory.specs.Span.{product}
use Rattle.ff_theory.specs.Vector.{vector_of, vectors_of}
use Rattle.ff_lin.specs.Space.{rows_of, AreVectors}
use Rattle.ff_characters.proofs.eigenspaces.shifted.Given as goal

abbrev pub invariant-loop-i : goal.invariant-loop-i
invariant-loop-i g l =
    let F = g.K.Ring.elements l.k in
    let n = length l.matrix in
    record {
      len : length l.rows.items ≡ l.i;
      vectors : AreVectors F n l.rows.items;
      value : (i : ℕ) → i < l.i → (v : ℕ → F.carrier)
          → product F.ring n v (vector_of F (get_or (rows_of l.rows.items) i []))
          ≡ F.add (product F.ring n (vectors_of F (rows_of l.matrix) i) v)
          (F.neg (F.mul (F.value l.c) (v i)));
    }
