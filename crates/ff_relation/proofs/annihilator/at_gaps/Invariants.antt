use Rattle.std.proofs.Common.{◌≡◌, ℕ, ◌<◌, length, get_or}
use Rattle.ff_theory.specs.Vector.{vector_of, IsVector}
use Rattle.ff_table.specs.Leading.{part}
use Rattle.ff_ring.specs.Ring.{table_in, element_in}
use Rattle.ff_relation.specs.declared.bases.Gap.{Gap}
use Rattle.ff_relation.proofs.annihilator.at_gaps.Given as goal

abbrev pub invariant-loop-i : goal.invariant-loop-i
invariant-loop-i g l = let F = g.K.Ring.elements l.k in record {
  form : IsVector F l.i l.vector.items;
  value : length l.s.weights ≡ l.s.e → (d : Gap) (j : ℕ) → j < l.i
      → vector_of F l.vector.items j ≡ part F.ring (table_in F l.s) (get_or l.gaps j d).class
      (get_or l.gaps j d).degree (element_in F l.s l.c);
}
