use Rattle.std.proofs.Common.{◌≡◌, ℕ, ◌+◌, ◌<◌, ◌≤◌, length, map}
use Rattle.ff_theory.specs.Span.{combination}
use Rattle.ff_theory.specs.Vector.{vector_of, vectors_of, IsVector}
use Rattle.ff_alg.proofs.Ring.add_combination.Given as goal

abbrev pub invariant-loop-i : goal.invariant-loop-i
invariant-loop-i g l =
    let K = g.Self.Ring.elements l.self in
    record {
      vector : IsVector K (length l.fn.sum) l.sum;
      value : (n : ℕ) → vector_of K l.sum n
          ≡ K.add (vector_of K l.fn.sum n)
          (combination K.ring l.i (vector_of K l.factors) (vectors_of K (map (λ r. r.items) l.rows))
          n);
    }

abbrev pub invariant-loop-j : goal.invariant-loop-j
invariant-loop-j g l =
    let K = g.Self.Ring.elements l.self in
    let rows = vectors_of K (map (λ r. r.items) l.rows) in
    record {
      vector : IsVector K (length l.fn.sum) l.sum;
      below : (n : ℕ) → n < l.j → vector_of K l.sum n
          ≡ K.add (vector_of K l.fn.sum n)
          (combination K.ring (l.i + 1) (vector_of K l.factors) rows n);
      above : (n : ℕ) → l.j ≤ n → vector_of K l.sum n
          ≡ K.add (vector_of K l.fn.sum n) (combination K.ring l.i (vector_of K l.factors) rows n);
    }
