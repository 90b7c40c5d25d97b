use Rattle.std.proofs.Common.{◌≡◌, ℕ, ◌+◌, ◌*◌, ◌<◌, ◌≤◌, length, map, get_or}
use Rattle.ff_theory.specs.PrimeTable.{prime_elements}
use Rattle.ff_theory.specs.Span.{combination}
use Rattle.ff_theory.specs.Vector.{vector_of, vectors_of}
use Rattle.ff_prime.proofs.prime.PrimeRing.add_combination.Given as goal

abbrev pub invariant-loop-i : goal.invariant-loop-i
invariant-loop-i l =
    let K = prime_elements l.self.number in
    record {
      len : length l.sum ≡ length l.fn.sum;
      terms : l.terms ≤ 400000;
      bound : (j : ℕ) → j < length l.sum → get_or l.sum j 0 ≤ 96 + l.terms * 9216;
      value : (j : ℕ) → vector_of K l.sum j
          ≡ K.add (vector_of K l.fn.sum j)
          (combination K.ring l.i (vector_of K l.factors)
          (vectors_of K (map (λ r. r.items) l.rows)) j);
    }
