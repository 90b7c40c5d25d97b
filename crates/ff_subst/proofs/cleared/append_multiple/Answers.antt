use Rattle.std.proofs.Common.{ap, length, subst, sym, ℕ, ◌+◌, ◌<◌, ◌∙◌, ◌≡◌}
use Rattle.ff_theory.specs.Values.{ArePolys, IsPoly, poly_of}
use Rattle.ff_theory.proofs.Results.{ok_map}
use Rattle.ff_elem.proofs.PolyLemmas.{product-length}
use Rattle.ff_elem.specs.Elem.{algebra_in, elem_of}
use Rattle.ff_subst.specs.Cleared.{AreCleared, IsAppendedBy, IsAppendedOver, IsCleared}
use Rattle.ff_subst.proofs.ClearedLemmas.{more-cleared}
use Rattle.ff_subst.proofs.cleared.append_multiple.Goals as goal

pub mul-requires : goal.mul-requires
mul-requires g c =
    record { a = c.requires.common.left.each; b = c.requires.list.den.each }

pub append_over-requires : goal.append_over-requires
append_over-requires g c =
    let K = g.K.Ring.elements c.args.alg.now.k in
    record {
      c = c.requires.common.left;
      planes = c.requires.list.planes;
      d = c.requires.common.right;
      rows = subst (ArePolys K) (sym c.rows.ensures) c.requires.e.num;
    }

pub returns-clause-cleared : goal.returns-clause-cleared
returns-clause-cleared g c =
    let K = g.K.Ring.elements c.args.alg.now.k in
    let L = g.K.Ring.lawful c.args.alg.now.k in
    let den = c.in_ok-den.den in
    ok_map (IsAppendedOver K den c.args.c.now c.args.list.planes c.args.d.now c.rows.result.now)
    (IsCleared K) c.append_over.result
    (λ r h. record {
      den = subst (IsPoly K) (sym h.over) c.in_ok-den.ensures.poly;
      nonzero = subst (λ p. 0 < length p) (sym h.over) (product-length K L den c.args.c.now
          c.args.list.den c.requires.common.left c.requires.list.den
          c.requires.common.some_left c.requires.list.nonzero c.in_ok-den.ensures.value);
      planes = h.each;
    }) c.append_over.ensures

pub returns-clause-count : goal.returns-clause-count
returns-clause-count g c =
    let K = g.K.Ring.elements c.args.alg.now.k in
    let planes = c.args.list.planes in
    ok_map (IsAppendedOver K c.in_ok-den.den c.args.c.now planes c.args.d.now c.rows.result.now)
    (λ r. length r.planes ≡ length planes + 1) c.append_over.result (λ r h. h.count)
    c.append_over.ensures

pub returns-clause-elements : goal.returns-clause-elements
returns-clause-elements g c =
    let K = g.K.Ring.elements c.args.alg.now.k in
    let L = g.K.Ring.lawful c.args.alg.now.k in
    let f = c.args.alg.now.f in
    let list = c.args.list in
    let n = length list.planes in
    ok_map (IsAppendedOver K c.in_ok-den.den c.args.c.now list.planes c.args.d.now
    c.rows.result.now)
    (λ r. (u : ℕ → (algebra_in L f).carrier) → AreCleared L f u list
    → elem_of L f c.args.e.now ≡ u n → AreCleared L f u r) c.append_over.result
    (λ r h u old is. more-cleared K L f u list r c.args.c.now c.args.d.now c.args.e.now
    c.requires.e c.requires.common (ap (poly_of K) h.over ∙ c.in_ok-den.ensures.value) h.count
    (subst (λ rows. IsAppendedBy K c.args.c.now list.planes c.args.d.now rows r.planes)
    c.rows.ensures h.appended) old is) c.append_over.ensures
