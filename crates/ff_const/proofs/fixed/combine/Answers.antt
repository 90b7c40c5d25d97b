use Rattle.std.proofs.Common.{◌≡◌, ◌∙◌, length, sym, ap, ap₂, subst, arith}
use Rattle.ff_theory.specs.Vector.{vector_of}
use Rattle.ff_theory.proofs.Coeffs.{coeff-map}
use Rattle.ff_elem.specs.Elem.{elem_of, algebra_in, IsElem}
use Rattle.ff_data.specs.Combinations.{constant_in, combination_in, elems_of}
use Rattle.ff_data.proofs.HornerLemmas.{sum-more}
use Rattle.ff_const.proofs.fixed.combine.Goals as goal

pub plus_product-requires : goal.plus_product-requires
plus_product-requires g c =
    let L = g.K.Ring.lawful c.args.alg.now.k in
    let f = c.args.alg.now.f in
    record {
      a = c.loop-i.invariant.element;
      b = c.in_ok-factor.ensures.element;
      c = subst (IsElem L f) (sym c.index-list-i.is)
          (c.requires.list c.loop-i.i c.index-list-i.result c.loop-i-test.true);
    }

pub loop-i-preserved : goal.loop-i-preserved
loop-i-preserved g c =
    let K = g.K.Ring.elements c.args.alg.now.k in
    let L = g.K.Ring.lawful c.args.alg.now.k in
    let f = c.args.alg.now.f in
    let A = algebra_in L f in
    let ws = c.args.list.now in
    let cs = c.args.c.now in
    let i = c.loop-i.i in
    let w = c.index-list-i.result in
    record {
      element = c.in_ok-sum-2.ensures.element;
      value = c.in_ok-sum-2.ensures.value
          ∙ ap₂ A.add c.loop-i.invariant.value (ap₂ A.mul (c.in_ok-factor.ensures.value
          ∙ ap (constant_in L f) (sym (coeff-map K.ring K.value cs i 0
          (omega (arith, c.loop-i-test.true, c.requires.c.len)))))
          (ap (elem_of L f) c.index-list-i.is
          ∙ sym (coeff-map A (elem_of L f) ws i w c.loop-i-test.true)))
          ∙ sum-more A (λ i. A.mul (constant_in L f (vector_of K cs i)) (elems_of L f ws i)) i;
    }

pub returns : goal.returns
returns g c =
    let K = g.K.Ring.elements c.args.alg.now.k in
    let L = g.K.Ring.lawful c.args.alg.now.k in
    let f = c.args.alg.now.f in
    let ws = c.args.list.now in
    let whole : c.loop-i.i ≡ length ws = omega (arith, c.loop-i-test.false, c.loop-i.auto.i-end) in
    record {
      element = c.loop-i.invariant.element;
      value = c.loop-i.invariant.value ∙ ap (λ n. combination_in L f n (vector_of K c.args.c.now)
          (elems_of L f ws)) whole;
    }
