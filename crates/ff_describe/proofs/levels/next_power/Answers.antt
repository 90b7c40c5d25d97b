use Rattle.std.proofs.Common.{◌≡◌, ◌-◌, ◌<◌, sym, ◌∙◌, ap, subst, arith, length}
use Rattle.ff_theory.proofs.Results.{ok_map}
use Rattle.ff_elem.specs.declared.elem.Elem.{Elem}
use Rattle.ff_elem.specs.Elem.{IsElem, ElemIs, elem_of, algebra_in}
use Rattle.ff_data.proofs.HornerLemmas.{elem-is}
use Rattle.ff_describe.specs.Levels.{raised}
use Rattle.ff_describe.proofs.ElemLemmas.{elem-at, raised-none, raised-more}
use Rattle.ff_describe.proofs.levels.next_power.Goals as goal

pub returns-then-a-eq0 : goal.returns-then-a-eq0
returns-then-a-eq0 g c =
    let K = g.K.Ring.elements c.args.alg.now.k in
    let L = g.K.Ring.lawful c.args.alg.now.k in
    let f = c.args.alg.now.f in
    let z = c.args.z.now in
    let w = c.args.w.now in
    ok_map (λ (r : Elem). r ≡ w) (ElemIs L f (raised L f z w c.args.a)) c.copy.result
    (λ r e. record {
      element = subst (IsElem L f) (sym e) c.requires.w;
      value = ap (elem_of L f) e ∙ sym (raised-none K L f z w)
          ∙ ap (raised L f z w) (let t : 0 ≡ c.args.a = omega (arith, c.if-a-eq0.true) in t);
    }) c.copy.ensures

pub mul-requires : goal.mul-requires
mul-requires g c =
    let L = g.K.Ring.lawful c.args.alg.now.k in
    let f = c.args.alg.now.f in
    let list = c.args.list.now in
    record {
      a = c.requires.z;
      b = subst (IsElem L f) (sym c.index-list-last.is) (c.requires.list (length list - 1)
          c.index-list-last.result (omega (
            arith,
            c.requires.some
                (omega (arith, c.if-a-eq0.false)),
          )));
    }

pub returns : goal.returns
returns g c =
    let K = g.K.Ring.elements c.args.alg.now.k in
    let L = g.K.Ring.lawful c.args.alg.now.k in
    let f = c.args.alg.now.f in
    let A = algebra_in L f in
    let z = c.args.z.now in
    let w = c.args.w.now in
    let list = c.args.list.now in
    let last = c.index-list-last.result in
    let pos : 0 < c.args.a = omega (arith, c.if-a-eq0.false) in
    elem-is K L f c.mul.result (A.mul (elem_of L f z) (elem_of L f last))
    (raised L f z w c.args.a) c.mul.ensures.element c.mul.ensures.value
    (ap (A.mul (elem_of L f z)) (ap (elem_of L f) c.index-list-last.is
    ∙ sym (elem-at K L f list (length list - 1) last (omega (arith, c.requires.some pos)))
    ∙ c.requires.last pos)
    ∙ raised-more K L f z w (c.args.a - 1) c.args.a (omega (arith, pos)))
