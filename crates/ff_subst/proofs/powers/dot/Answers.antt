use Rattle.std.proofs.Common.{[], ap, arith, get_or, length, subst, sym, ◌∙◌, ◌≡◌}
use Rattle.std.proofs.lemmas.List.{get_or_default}
use Rattle.ff_theory.specs.Poly.{polynomials}
use Rattle.ff_theory.specs.Values.{IsPlane, plane_of, poly_of}
use Rattle.ff_theory.specs.Planes.{row_of}
use Rattle.ff_theory.proofs.Results.{ok_map}
use Rattle.ff_theory.specs.Values.{ArePolys}
use Rattle.ff_subst.specs.Congruence.{AreCongruent}
use Rattle.ff_subst.specs.Columns.{plane_combination}
use Rattle.ff_subst.proofs.HornerLemmas.{combination-step}
use Rattle.ff_subst.proofs.powers.dot.Goals as goal

pub plus_product-requires : goal.plus_product-requires
plus_product-requires g c =
    let K = g.K.Ring.elements c.args.k.now in
    let L = g.K.Ring.lawful c.args.k.now in
    record {
      sum = c.loop-j.invariant.plane;
      rows = c.requires.rows;
      plane = subst (IsPlane K)
          (sym c.index-planes-j.is) (c.requires.planes c.loop-j.j c.index-planes-j.result
          c.loop-j-test.true);
    }

pub loop-j-init : goal.loop-j-init
loop-j-init g c = record {
  plane = c.zero_plane-sum.ensures.plane;
  value = c.zero_plane-sum.ensures.value;
}

pub loop-j-preserved : goal.loop-j-preserved
loop-j-preserved g c =
    let K = g.K.Ring.elements c.args.k.now in
    let L = g.K.Ring.lawful c.args.k.now in
    let P = polynomials (polynomials K.ring) in
    let j = c.loop-j.j in
    let N = c.index-planes-j.result in
    record {
      plane = c.in_ok-sum.ensures.plane;
      value = combination-step K L (λ j. poly_of K (get_or c.args.rows.now j []))
          (λ j. plane_of K (get_or c.args.planes.now j [])) j (plane_of K c.loop-j.sum)
          (plane_of K c.in_ok-sum.sum) c.loop-j.invariant.value
          (c.in_ok-sum.ensures.value ∙ ap (λ N. P.add (plane_of K c.loop-j.sum) (P.mul (row_of
          K.ring (poly_of K (get_or c.args.rows.now j []))) (plane_of K N)))
          (c.index-planes-j.is ∙ get_or_default c.args.planes.now j N [] c.loop-j-test.true));
    }

pub reduce-requires : goal.reduce-requires
reduce-requires g c =
    let K = g.K.Ring.elements c.args.k.now in
    record {
      m = c.requires.m;
      rows = subst (ArePolys K) (sym c.rows.ensures)
          c.loop-j.invariant.plane.each;
    }

pub returns-clause-congruent : goal.returns-clause-congruent
returns-clause-congruent g c =
    let K = g.K.Ring.elements c.args.k.now in
    let m = c.args.m.now in
    let whole : c.loop-j.j ≡ length c.args.planes.now = omega (
      arith,
      c.loop-j-test.false,
      c.loop-j.auto.j-end,
    ) in
    let total = ap (plane_of K) c.rows.ensures ∙ c.loop-j.invariant.value
    ∙ ap (λ n. plane_combination K.ring n (λ j. poly_of K (get_or c.args.rows.now j []))
    (λ j. plane_of K (get_or c.args.planes.now j []))) whole in
    ok_map (λ r. AreCongruent K m (plane_of K c.rows.result.now) (plane_of K r))
    (λ r. AreCongruent K m (plane_combination K.ring (length c.args.planes.now) (λ j. poly_of K
    (get_or c.args.rows.now j [])) (λ j. plane_of K (get_or c.args.planes.now j [])))
    (plane_of K r)) c.reduce.result
    (λ r h. subst (λ N. AreCongruent K m N (plane_of K r)) total h) c.reduce.ensures.congruent
