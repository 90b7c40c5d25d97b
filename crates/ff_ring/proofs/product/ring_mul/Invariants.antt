use Rattle.ff_theory.specs.Sum.{sum_below}
use Rattle.ff_theory.specs.Values.{polys_over}
use Rattle.ff_ring.specs.Entries.{entry_at, AreEntries}
use Rattle.ff_ring.specs.Ring.{table_entry}
use Rattle.ff_ring.proofs.product.ring_mul.Given as goal

abbrev pub invariant-loop-i : goal.invariant-loop-i
invariant-loop-i g l =
    let F = g.K.Ring.elements l.k in
    let P = polys_over F in
    AreEntries F l.s.e (λ m. sum_below P l.i (λ i. sum_below P l.s.e (λ j.
    P.mul (entry_at F l.a i) (P.mul (entry_at F l.b j) (table_entry F l.s i j m))))) l.sum.items
