use Rattle.std.proofs.Common.{◌≡◌, ℕ, ◌<◌, ◌≤◌, length}
use Rattle.ff_theory.specs.Monomial.{monomial}
use Rattle.ff_theory.specs.Values.{polys_over}
use Rattle.ff_lin.specs.Space.{AreVectors, rows_of}
use Rattle.ff_ring.specs.Entries.{entry_at}
use Rattle.ff_relation.proofs.reduce.add_multiple.Given as goal

abbrev pub invariant-loop-l : goal.invariant-loop-l
invariant-loop-l g l =
    let F = g.K.Ring.elements l.k in
    let P = polys_over F in
    record {
      count : length l.rest ≡ length l.fn.rest;
      rest : AreVectors F l.n l.rest;
      below : (j : ℕ) → j < l.l → entry_at F (rows_of l.rest) j ≡ P.add
          (entry_at F (rows_of l.fn.rest) j)
          (P.mul (monomial F.ring (F.value l.c) l.at) (entry_at F l.x j));
      above : (j : ℕ) → l.l ≤ j → entry_at F (rows_of l.rest) j
          ≡ entry_at F (rows_of l.fn.rest) j;
    }
