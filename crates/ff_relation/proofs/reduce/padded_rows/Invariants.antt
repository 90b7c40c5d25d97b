use Rattle.std.proofs.Common.{◌≡◌, ℕ, ◌<◌, ◌≤◌}
use Rattle.ff_theory.specs.Values.{x_size}
use Rattle.ff_lin.specs.Space.{rows_of}
use Rattle.ff_ring.specs.Entries.{entry_at}
use Rattle.ff_relation.specs.Reduction.{AreRows}
use Rattle.ff_relation.proofs.reduce.padded_rows.Given as goal

abbrev pub invariant-loop-l : goal.invariant-loop-l
invariant-loop-l g l =
    let F = g.K.Ring.elements l.k in
    record {
      form : AreRows F l.l l.n l.rows.items;
      value : x_size l.list ≤ l.n → (j : ℕ) → j < l.l → entry_at F (rows_of l.rows.items) j
          ≡ entry_at F l.list j;
    }
