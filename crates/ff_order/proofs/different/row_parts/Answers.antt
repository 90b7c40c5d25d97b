use Rattle.std.proofs.Common.{[], map, get_or, sym, ◌∙◌, ap, subst, arith, Vec, Global}
use Rattle.std.proofs.Common.{List, ℕ}
use Rattle.std.proofs.lemmas.List.{get_or_default, length-map}
use Rattle.ff_theory.specs.Poly.{coeff}
use Rattle.ff_theory.specs.Values.{polys_over, plane_of, ArePolys}
use Rattle.ff_order.specs.Level.{AreParts}
use Rattle.ff_order.proofs.ResidueVectors.{pushed_items}
use Rattle.ff_order.proofs.different.row_parts.Goals as goal

pub parts-requires : goal.parts-requires
parts-requires g c =
    let F = g.K.Ring.elements c.args.alg.now.k in
    let planes = c.args.planes.now in
    let i = c.loop-plane.plane-index in
    let same = c.rows.ensures ∙ c.plane-item.is
    ∙ get_or_default planes i c.plane-item.result [] c.loop-plane-test.true in
    subst (ArePolys F) (sym same) (c.requires.each i c.loop-plane-test.true).plane.each

pub loop-plane-preserved : goal.loop-plane-preserved
loop-plane-preserved g c =
    let F = g.K.Ring.elements c.args.alg.now.k in
    let L = g.K.Ring.lawful c.args.alg.now.k in
    let f = c.args.alg.now.f in
    let P = polys_over F in
    let items : Vec (List ℕ) Global → List (List ℕ) = λ v. v.items in
    let planes = c.args.planes.now in
    let i = c.loop-plane.plane-index in
    let j = c.args.j in
    let list = c.in_ok-parts.field-0 in
    let h = c.loop-plane.invariant in
    let e = c.in_ok-push.ensures.items in
    let same = c.rows.ensures ∙ c.plane-item.is
    ∙ get_or_default planes i c.plane-item.result [] c.loop-plane-test.true in
    record {
      len = omega (arith, c.in_ok-push.ensures.len, h.len);
      each = λ n l. subst (λ t. AreParts L f c.args.chart n j (get_or (map items t) n [])) (sym e)
          (pushed_items items c.loop-plane.lists.items list []
          (λ n p. AreParts L f c.args.chart n j p) i h.len h.each
          (record {
            parts_are = record {
              each = c.in_ok-parts.ensures.each;
              len = c.in_ok-parts.ensures.len;
            };
            plane = get_or planes i [];
            is_plane = c.requires.each i c.loop-plane-test.true;
            sum = ap (λ a. coeff P (plane_of F a).coeffs j) (sym same) ∙ c.in_ok-parts.ensures.sum;
          }) n l);
    }

pub returns : goal.returns
returns g c =
    let items : Vec (List ℕ) Global → List (List ℕ) = λ v. v.items in
    let count = length-map c.loop-plane.lists.items items in
    let h = c.loop-plane.invariant in
    record {
      len = omega (
        arith,
        count,
        h.len,
        c.requires.len,
        c.loop-plane-test.false,
        c.loop-plane.auto.plane-index-end,
      );
      each = λ i l. h.each i (omega (arith, l, count, h.len));
    }
