use Rattle.std.proofs.Common.{ℕ, ◌<◌, All}
use Rattle.ff_relation.specs.declared.bases.Gap.{Gap}
use Rattle.ff_relation.specs.InRing.{number_at, HasGaps}
use Rattle.ff_relation.proofs.bases.gaps.Given as goal

abbrev pub invariant-loop-l : goal.invariant-loop-l
invariant-loop-l l = record {
  form : All (λ (g : Gap). g.class < l.e) l.gaps.items;
  all : (i : ℕ) → i < l.l → HasGaps i (number_at l.limits i) l.gaps.items;
}
