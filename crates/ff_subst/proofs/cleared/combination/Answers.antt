use Rattle.std.proofs.Common.{◌≡◌, length, get_or, [], ◌∷◌, sym, ◌∙◌, ap, ap₂, subst, arith}
use Rattle.std.proofs.lemmas.List.{get_or_default}
use Rattle.ff_theory.specs.Poly.{poly, polynomials}
use Rattle.ff_theory.specs.Values.{plane_of, IsPlane}
use Rattle.ff_theory.specs.Planes.{row_of}
use Rattle.ff_subst.specs.Columns.{plane_combination, constant_after}
use Rattle.ff_subst.proofs.HornerLemmas.{combination-step}
use Rattle.ff_subst.proofs.cleared.combination.Goals as goal

pub coeff_after-c-requires : goal.coeff_after-c-requires
coeff_after-c-requires g c = c.requires.p.each

pub plus_multiple-requires : goal.plus_multiple-requires
plus_multiple-requires g c =
    let K = g.K.Ring.elements c.args.k.now in
    record {
      c = c.coeff_after-c.ensures.element;
      sum = c.loop-j.invariant.plane;
      plane = subst
          (IsPlane K) (sym c.index-planes-j.is)
          (c.requires.planes c.loop-j.j c.index-planes-j.result c.loop-j-test.true);
    }

pub loop-j-init : goal.loop-j-init
loop-j-init g c = record {
  plane = c.zero_plane-sum.ensures.plane;
  value = c.zero_plane-sum.ensures.value;
}

pub loop-j-preserved : goal.loop-j-preserved
loop-j-preserved g c =
    let K = g.K.Ring.elements c.args.k.now in
    let L = g.K.Ring.lawful c.args.k.now in
    let P = polynomials (polynomials K.ring) in
    let j = c.loop-j.j in
    let N = c.index-planes-j.result in
    record {
      plane = c.in_ok-sum.ensures.plane;
      value = combination-step K L (λ j. constant_after K c.args.p.now c.args.i j)
          (λ j. plane_of K (get_or c.args.planes.now j [])) j (plane_of K c.loop-j.sum)
          (plane_of K c.in_ok-sum.sum) c.loop-j.invariant.value
          (c.in_ok-sum.ensures.value ∙ ap₂ (λ a N. P.add (plane_of K c.loop-j.sum) (P.mul (row_of
          K.ring (poly K.ring (a ∷ []))) (plane_of K N))) c.coeff_after-c.ensures.value
          (c.index-planes-j.is ∙ get_or_default c.args.planes.now j N [] c.loop-j-test.true));
    }

pub returns-clause-value : goal.returns-clause-value
returns-clause-value g c =
    let K = g.K.Ring.elements c.args.k.now in
    let whole : c.loop-j.j ≡ length c.args.planes.now = omega (
      arith,
      c.loop-j-test.false,
      c.loop-j.auto.j-end,
    ) in
    c.loop-j.invariant.value ∙ ap (λ n. plane_combination K.ring n (λ j. constant_after K
    c.args.p.now c.args.i j) (λ j. plane_of K (get_or c.args.planes.now j []))) whole
