use Rattle.std.proofs.Common.{◌≡◌, ◌∙◌, length, get_or, [], sym, ap, subst, arith}
use Rattle.std.proofs.lemmas.List.{get_or_default}
use Rattle.ff_theory.specs.Poly.{polynomials}
use Rattle.ff_theory.specs.Divides.{Divides}
use Rattle.ff_theory.specs.Values.{poly_of}
use Rattle.ff_elem.specs.declared.elem.Elem.{Elem}
use Rattle.ff_elem.specs.Elem.{IsElem}
use Rattle.ff_elem.proofs.RowLemmas.{pushed-length}
use Rattle.ff_data.specs.Vectors.{IsNumerator}
use Rattle.ff_data.proofs.ListLemmas.{pushed-at}
use Rattle.ff_data.proofs.vectors.numerators.Goals as goal

pub numerator-requires : goal.numerator-requires
numerator-requires g c =
    let K = g.K.Ring.elements c.args.alg.now.k in
    let L = g.K.Ring.lawful c.args.alg.now.k in
    let f = c.args.alg.now.f in
    let w = c.w-item.result in
    let i = c.loop-w.w-index in
    record {
      den = c.requires.den.poly;
      w = subst (IsElem L f) (sym c.w-item.is) (c.requires.list i w c.loop-w-test.true);
      multiple = subst (λ (v : Elem). Divides (polynomials K.ring) (poly_of K v.den)
          (poly_of K c.args.den.now)) (sym c.w-item.is)
          (c.requires.den.multiple i w c.loop-w-test.true);
    }

pub loop-w-init : goal.loop-w-init
loop-w-init g c = record {
  count = ap length c.in_ok-numerators.ensures.items;
  each = λ j h d. absurd (omega (arith, h));
}

pub loop-w-preserved : goal.loop-w-preserved
loop-w-preserved g c =
    let K = g.K.Ring.elements c.args.alg.now.k in
    let L = g.K.Ring.lawful c.args.alg.now.k in
    let f = c.args.alg.now.f in
    let den = c.args.den.now in
    let ws = c.args.list.now in
    let w = c.w-item.result in
    let i = c.loop-w.w-index in
    let old = c.loop-w.numerators.items in
    let e = c.in_ok-push.ensures.items in
    record {
      count = pushed-length old c.in_ok-numerator.field-0 c.push.new.self.items i e
          c.loop-w.invariant.count;
      each = pushed-at (λ j rows. (d : Elem) → IsNumerator L f den (get_or ws j d) rows) [] old
          c.in_ok-numerator.field-0 c.push.new.self.items i e c.loop-w.invariant.count
          c.loop-w.invariant.each
          (λ d. subst (λ v. IsNumerator L f den v c.in_ok-numerator.field-0)
          (c.w-item.is ∙ get_or_default ws i w d c.loop-w-test.true) c.in_ok-numerator.ensures);
    }

pub returns : goal.returns
returns g c =
    let whole : c.loop-w.w-index ≡ length c.args.list.now = omega (
      arith,
      c.loop-w-test.false,
      c.loop-w.auto.w-index-end,
    ) in
    record {
      count = c.loop-w.invariant.count ∙ whole;
      each = λ i d h. c.loop-w.invariant.each i (omega (arith, h, whole)) d;
    }
