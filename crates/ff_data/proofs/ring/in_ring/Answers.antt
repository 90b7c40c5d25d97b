use Rattle.std.proofs.Common.{◌≡◌, ◌∙◌, sym, ap, ap₂, subst, arith, get_or, [], length}
use Rattle.std.proofs.lemmas.List.{get_or_default}
use Rattle.ff_theory.specs.Sum.{sum_below}
use Rattle.ff_theory.proofs.Coeffs.{coeff-map}
use Rattle.ff_elem.specs.Elem.{IsElem, algebra_in, elem_of}
use Rattle.ff_data.specs.declared.system.System.{System}
use Rattle.ff_data.specs.Combinations.{elems_of}
use Rattle.ff_data.specs.Systems.{at_z}
use Rattle.ff_data.proofs.HornerLemmas.{sum-more}
use Rattle.ff_data.proofs.ring.in_ring.Goals as goal

pub plus_product-requires : goal.plus_product-requires
plus_product-requires g c =
    let L = g.K.Ring.lawful c.args.alg.now.k in
    let f = c.args.alg.now.f in
    let s = c.args.s.now in
    let l = c.loop-l.l in
    let b = c.index.result.now in
    record {
      a = c.loop-l.invariant.element;
      b = c.in_ok-factor.ensures.element;
      c = subst (IsElem L f) (sym (c.index.ensures
          ∙ ap (λ (t : System). get_or t.b l b) c.s.view_is))
          (c.requires.form.b l b
          (omega (arith, c.loop-l-test.true, c.requires.count, c.requires.form.count)));
    }

pub loop-l-preserved : goal.loop-l-preserved
loop-l-preserved g c =
    let L = g.K.Ring.lawful c.args.alg.now.k in
    let f = c.args.alg.now.f in
    let A = algebra_in L f in
    let s = c.args.s.now in
    let l = c.loop-l.l in
    let b = c.index.result.now in
    record {
      element = c.in_ok-sum-2.ensures.element;
      value = c.in_ok-sum-2.ensures.value
          ∙ ap₂ A.add c.loop-l.invariant.value (ap₂ A.mul (c.in_ok-factor.ensures.value
          ∙ ap (λ (t : System). at_z L f t c.index-c-l.result) c.s.view_is
          ∙ ap (at_z L f s) (c.index-c-l.is
          ∙ get_or_default c.args.c.now l c.index-c-l.result [] c.loop-l-test.true))
          (ap (elem_of L f) (c.index.ensures
          ∙ ap (λ (t : System). get_or t.b l b) c.s.view_is)
          ∙ sym (coeff-map A (elem_of L f) s.b l b
          (omega (arith, c.loop-l-test.true, c.requires.count, c.requires.form.count)))))
          ∙ sum-more A (λ i. A.mul (at_z L f s (get_or c.args.c.now i [])) (elems_of L f s.b i)) l;
    }

pub returns : goal.returns
returns g c =
    let L = g.K.Ring.lawful c.args.alg.now.k in
    let f = c.args.alg.now.f in
    let A = algebra_in L f in
    let s = c.args.s.now in
    let whole : c.loop-l.l ≡ length c.args.c.now = omega (
      arith,
      c.loop-l-test.false,
      c.loop-l.auto.l-end,
    ) in
    record {
      element = c.loop-l.invariant.element;
      value = c.loop-l.invariant.value ∙ ap (λ n. sum_below A n (λ i. A.mul
          (at_z L f s (get_or c.args.c.now i [])) (elems_of L f s.b i))) whole;
    }
