use Rattle.std.proofs.Common.{◌<◌, All}
use Rattle.std.specs.List.{Contains}
use Rattle.ff_relation.specs.declared.bases.Gap.{Gap}
use Rattle.ff_relation.specs.InRing.{HasGaps}
use Rattle.ff_relation.proofs.bases.push_gaps.Given as goal

abbrev pub invariant-loop-degree : goal.invariant-loop-degree
invariant-loop-degree l = record {
  form : All (λ (g : Gap). g.class < l.e) l.gaps.items;
  kept : (g : Gap) → Contains l.fn.gaps.items g → Contains l.gaps.items g;
  new : HasGaps l.class l.degree l.gaps.items;
}
