use Rattle.std.proofs.Common.{◌≡◌, ◌+◌, sym, ◌∙◌, ap, ap₂, subst, arith}
use Rattle.ff_elem.specs.Elem.{IsElem, elem_of, algebra_in}
use Rattle.ff_describe.specs.Levels.{product_of, Extends}
use Rattle.ff_describe.proofs.ElemLemmas.{elem-at, extends-none, extends-push}
use Rattle.ff_describe.proofs.products.push_products.Goals as goal

pub mul-requires : goal.mul-requires
mul-requires g c =
    let L = g.K.Ring.lawful c.args.alg.now.k in
    let f = c.args.alg.now.f in
    record {
      a = subst (IsElem L f) (sym c.index-b-i.is) (c.requires.b c.loop-i.i c.index-b-i.result
          (omega (arith, c.loop-i-test.true, c.requires.index)));
      b = subst (IsElem L f) (sym c.index-b-j.is) (c.requires.b c.args.j c.index-b-j.result
          (omega (arith, c.requires.index)));
    }

pub loop-i-init : goal.loop-i-init
loop-i-init g c =
    let L = g.K.Ring.lawful c.args.alg.now.k in
    extends-none (g.K.Ring.elements c.args.alg.now.k) L c.args.alg.now.f c.args.list.items
    (λ i. product_of L c.args.alg.now.f c.args.b.now i c.args.j) c.requires.list

pub loop-i-preserved : goal.loop-i-preserved
loop-i-preserved g c =
    let K = g.K.Ring.elements c.args.alg.now.k in
    let L = g.K.Ring.lawful c.args.alg.now.k in
    let f = c.args.alg.now.f in
    let A = algebra_in L f in
    let b = c.args.b.now in
    let i = c.loop-i.i in
    let j = c.args.j in
    extends-push K L f c.args.list.items c.loop-i.longer.items c.push.new.self.items i
    (λ i. product_of L f b i j) c.in_ok-next.next c.loop-i.invariant
    (record {
      element = c.in_ok-next.ensures.element;
      value = c.in_ok-next.ensures.value ∙ ap₂ A.mul
          (ap (elem_of L f) c.index-b-i.is ∙ sym (elem-at K L f b i c.index-b-i.result
          (omega (arith, c.loop-i-test.true, c.requires.index))))
          (ap (elem_of L f) c.index-b-j.is ∙ sym (elem-at K L f b j c.index-b-j.result
          (omega (arith, c.requires.index))));
    }) c.in_ok-push.ensures.items

pub returns : goal.returns
returns g c =
    let L = g.K.Ring.lawful c.args.alg.now.k in
    let whole : c.loop-i.i ≡ c.args.j + 1 = omega (
      arith,
      c.loop-i-test.false,
      c.loop-i.auto.i-end,
    ) in
    subst (λ n. Extends L c.args.alg.now.f c.args.list.items n
    (λ i. product_of L c.args.alg.now.f c.args.b.now i c.args.j) c.loop-i.longer.items) whole
    c.loop-i.invariant
