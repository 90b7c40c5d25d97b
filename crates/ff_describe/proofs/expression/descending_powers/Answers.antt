use Rattle.std.proofs.Common.{◌≡◌, List, [], ◌∷◌, ◌++◌, sym, ◌∙◌, ap, ap₂, subst, arith}
use Rattle.ff_elem.specs.declared.elem.Elem.{Elem}
use Rattle.ff_elem.specs.Elem.{IsElem, elem_of, algebra_in}
use Rattle.ff_describe.specs.Levels.{AreDescending}
use Rattle.ff_describe.proofs.ElemLemmas.{elem-at, descending-none, descending-more}
use Rattle.ff_describe.proofs.expression.descending_powers.Goals as goal

pub mul-requires : goal.mul-requires
mul-requires g c =
    let L = g.K.Ring.lawful c.args.alg.now.k in
    let f = c.args.alg.now.f in
    record {
      a = c.requires.z;
      b = subst (IsElem L f) (sym c.index.ensures) (c.loop-d.invariant.elems 0 c.index.result.now
          (omega (arith, c.loop-d.invariant.len)));
    }

pub loop-d-init : goal.loop-d-init
loop-d-init g c =
    let K = g.K.Ring.elements c.args.alg.now.k in
    let L = g.K.Ring.lawful c.args.alg.now.k in
    let f = c.args.alg.now.f in
    descending-none K L f c.args.z.now c.args.w.now c.push.new.self.items c.requires.w
    (c.in_ok-push.ensures.items ∙ ap₂ (λ (xs : List Elem) (x : Elem). xs ++ x ∷ [])
    c.in_ok-list.ensures.items c.in_ok-copy.ensures)

pub loop-d-preserved : goal.loop-d-preserved
loop-d-preserved g c =
    let K = g.K.Ring.elements c.args.alg.now.k in
    let L = g.K.Ring.lawful c.args.alg.now.k in
    let f = c.args.alg.now.f in
    let A = algebra_in L f in
    let list = c.loop-d.list.items in
    descending-more K L f c.args.z.now c.args.w.now c.in_ok-next.next list
    c.insert.new.self.items c.loop-d._d c.loop-d.invariant c.in_ok-next.ensures.element
    (c.in_ok-next.ensures.value ∙ ap (A.mul (elem_of L f c.args.z.now))
    (ap (elem_of L f) c.index.ensures ∙ sym (elem-at K L f list 0 c.index.result.now
    (omega (arith, c.loop-d.invariant.len)))))
    c.in_ok-insert.ensures.items

pub returns : goal.returns
returns g c =
    let whole : c.loop-d._d ≡ c.args.m = omega (
      arith,
      c.loop-d-test.false,
      c.loop-d.auto._d-end,
    ) in
    subst (λ n. AreDescending (g.K.Ring.lawful c.args.alg.now.k) c.args.alg.now.f
    c.args.z.now c.args.w.now n c.loop-d.list.items) whole c.loop-d.invariant
