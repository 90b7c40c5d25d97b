use Rattle.std.proofs.Common.{◌≡◌, ℕ, ◌<◌, length, map}
use Rattle.ff_theory.specs.Vector.{vectors_of}
use Rattle.ff_data.specs.Combinations.{AreElems, elems_of}
use Rattle.ff_common.specs.Common.{HasVectorOver}
use Rattle.ff_common.proofs.both_charts.quotients_by.Given as goal

abbrev pub invariant-loop-v : goal.invariant-loop-v
invariant-loop-v g l =
    let F = g.K.Ring.elements l.alg.k in
    let L = g.K.Ring.lawful l.alg.k in
    let f = l.alg.f in
    record {
      elems : AreElems L f l.elements.items;
      count : length l.elements.items ≡ l.v-index;
      each : (i : ℕ) → i < l.v-index → HasVectorOver L f l.d l.l
          (vectors_of F (map (λ v. v.items) l.vectors) i) (elems_of L f l.elements.items i);
    }
