use Rattle.std.proofs.Common.{List, [], ap, arith, get_or, length, subst, sym, ℕ, ◌∙◌}
use Rattle.std.proofs.lemmas.List.{get_or_default}
use Rattle.ff_theory.specs.Poly.{polynomials}
use Rattle.ff_theory.specs.Values.{IsPlane, plane_of, poly_of}
use Rattle.ff_theory.specs.Planes.{row_of}
use Rattle.ff_elem.proofs.RowLemmas.{pushed-each, pushed-length}
use Rattle.ff_subst.specs.Congruence.{AreCongruent, ArePlanes}
use Rattle.ff_subst.proofs.Remainders.{pushed}
use Rattle.ff_subst.proofs.modulo.multiples.Goals as goal

pub multiple-requires : goal.multiple-requires
multiple-requires g c =
    let K = g.K.Ring.elements c.args.k.now in
    record {
      m = c.requires.m;
      c = c.requires.c;
      plane = subst (IsPlane K) (sym c.plane-item.is)
          (c.requires.planes c.loop-plane.plane-index c.plane-item.result c.loop-plane-test.true);
    }

pub loop-plane-init : goal.loop-plane-init
loop-plane-init g c =
    let K = g.K.Ring.elements c.args.k.now in
    record {
      count = ap length c.in_ok-products.ensures.items;
      each = subst (ArePlanes K) (sym c.in_ok-products.ensures.items)
          (λ k d l. absurd (omega arith));
      congruent = λ j l. absurd (omega arith);
    }

pub loop-plane-preserved : goal.loop-plane-preserved
loop-plane-preserved g c =
    let K = g.K.Ring.elements c.args.k.now in
    let L = g.K.Ring.lawful c.args.k.now in
    let P = polynomials (polynomials K.ring) in
    let m = c.args.m.now in
    let i = c.loop-plane.plane-index in
    let N = c.plane-item.result in
    let r = c.in_ok-multiple.field-0 in
    let xs = c.loop-plane.products.items in
    let new = c.in_ok-push.ensures.items in
    let q = row_of K.ring (poly_of K c.args.c.now) in
    record {
      count = pushed-length xs r _ i new c.loop-plane.invariant.count;
      each = pushed-each (IsPlane K) xs r _ new c.loop-plane.invariant.each
          c.in_ok-multiple.ensures.plane;
      congruent = λ j l. subst (λ (ys : List (List (List ℕ))). AreCongruent K m (P.mul q (plane_of K
          (get_or c.args.planes.now j []))) (plane_of K (get_or ys j []))) (sym new)
          (pushed K L (λ j p. AreCongruent K m
          (P.mul q (plane_of K (get_or c.args.planes.now j []))) (plane_of K p)) xs r [] i
          (sym c.loop-plane.invariant.count) c.loop-plane.invariant.congruent
          (subst (λ p. AreCongruent K m (P.mul q (plane_of K p)) (plane_of K r))
          (c.plane-item.is ∙ get_or_default c.args.planes.now i N [] c.loop-plane-test.true)
          c.in_ok-multiple.ensures.congruent) j l);
    }

pub returns-clause-congruent : goal.returns-clause-congruent
returns-clause-congruent g c =
    λ j l. c.loop-plane.invariant.congruent j (omega (arith, c.loop-plane-test.false, l))
