use Rattle.std.proofs.Common.{◌≡◌, length, map, get_or, [], ◌∷◌, sym, ◌∙◌, ap, ap₂, subst, arith}
use Rattle.std.proofs.lemmas.List.{get_or_default}
use Rattle.ff_theory.specs.Poly.{coeff, poly, polynomials}
use Rattle.ff_theory.specs.Values.{plane_of, IsPoly, IsPlane}
use Rattle.ff_theory.specs.Planes.{row_of}
use Rattle.ff_subst.specs.Columns.{plane_combination, constant_at}
use Rattle.ff_subst.proofs.HornerLemmas.{combination-step}
use Rattle.ff_subst.proofs.evaluation.column_sum.Goals as goal

pub coeff-c-requires : goal.coeff-c-requires
coeff-c-requires g c =
    let K = g.K.Ring.elements c.args.k.now in
    let L = g.K.Ring.lawful c.args.k.now in
    let h : IsPoly K c.index-rows-j.result = subst (IsPoly K) (sym c.index-rows-j.is)
    (c.requires.rows c.loop-j.j c.index-rows-j.result c.loop-j-test.true) in
    h.each

pub plus_multiple-requires : goal.plus_multiple-requires
plus_multiple-requires g c =
    let K = g.K.Ring.elements c.args.k.now in
    let L = g.K.Ring.lawful c.args.k.now in
    record {
      c = c.coeff-c.ensures.element;
      sum = c.loop-j.invariant.plane;
      plane = subst
          (IsPlane K) (sym c.index-planes-j.is)
          (c.requires.planes c.loop-j.j c.index-planes-j.result
          (omega (arith, c.requires.enough, c.loop-j-test.true)));
    }

pub loop-j-init : goal.loop-j-init
loop-j-init g c = record {
  plane = c.zero_plane-sum.ensures.plane;
  value = c.zero_plane-sum.ensures.value;
}

pub loop-j-preserved : goal.loop-j-preserved
loop-j-preserved g c =
    let K = g.K.Ring.elements c.args.k.now in
    let L = g.K.Ring.lawful c.args.k.now in
    let P = polynomials (polynomials K.ring) in
    let j = c.loop-j.j in
    let i = c.args.i in
    let N = c.index-planes-j.result in
    let row = c.index-rows-j.result in
    record {
      plane = c.in_ok-sum.ensures.plane;
      value = combination-step K L (λ j. constant_at K c.args.rows.now i j)
          (λ j. plane_of K (get_or c.args.planes.now j [])) j (plane_of K c.loop-j.sum)
          (plane_of K c.in_ok-sum.sum) c.loop-j.invariant.value
          (c.in_ok-sum.ensures.value ∙ ap₂ (λ a N. P.add (plane_of K c.loop-j.sum) (P.mul (row_of
          K.ring (poly K.ring (a ∷ []))) (plane_of K N)))
          (c.coeff-c.ensures.value ∙ ap (λ r. coeff K.ring (map K.value r) i) (c.index-rows-j.is
          ∙ get_or_default c.args.rows.now j row [] c.loop-j-test.true))
          (c.index-planes-j.is ∙ get_or_default c.args.planes.now j N []
          (omega (arith, c.requires.enough, c.loop-j-test.true))));
    }

pub returns-clause-value : goal.returns-clause-value
returns-clause-value g c =
    let K = g.K.Ring.elements c.args.k.now in
    let L = g.K.Ring.lawful c.args.k.now in
    let whole : c.loop-j.j ≡ length c.args.rows.now = omega (
      arith,
      c.loop-j-test.false,
      c.loop-j.auto.j-end,
    ) in
    c.loop-j.invariant.value ∙ ap (λ n. plane_combination K.ring n (λ j. constant_at K
    c.args.rows.now c.args.i j) (λ j. plane_of K (get_or c.args.planes.now j []))) whole
