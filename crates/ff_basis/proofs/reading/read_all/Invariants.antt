use Rattle.std.proofs.Common.{◌≡◌, ℕ, ◌<◌, length, map, get_or, All}
use Rattle.ff_theory.specs.Vector.{vectors_of}
use Rattle.ff_theory.specs.Values.{poly_of}
use Rattle.ff_elem.specs.declared.elem.Elem.{Elem}
use Rattle.ff_elem.specs.Elem.{elem_of, IsElem}
use Rattle.ff_basis.specs.OrderList.{IsFraction}
use Rattle.ff_basis.proofs.reading.read_all.Given as goal

abbrev pub invariant-loop-v : goal.invariant-loop-v
invariant-loop-v g l =
    let F = g.K.Ring.elements l.alg.k in
    let L = g.K.Ring.lawful l.alg.k in
    let f = l.alg.f in
    record {
      len : length l.list.items ≡ l.v-index;
      each : All (IsElem L f) l.list.items;
      value : (i : ℕ) (e : Elem) → i < l.v-index → IsFraction L f l.chart (poly_of F l.den)
          (vectors_of F (map (λ v. v.items) l.basis) i) (elem_of L f (get_or l.list.items i e));
    }
