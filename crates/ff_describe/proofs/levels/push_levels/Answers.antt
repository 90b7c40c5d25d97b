use Rattle.std.proofs.Common.{◌≡◌, sym, ◌∙◌, ap, subst, arith, length}
use Rattle.ff_elem.specs.Elem.{IsElem, elem_of}
use Rattle.ff_describe.specs.Levels.{HasLevels}
use Rattle.ff_describe.proofs.ElemLemmas.{elem-at, levels-none, levels-more}
use Rattle.ff_describe.proofs.levels.push_levels.Goals as goal

pub push_powers-requires : goal.push_powers-requires
push_powers-requires g c =
    let L = g.K.Ring.lawful c.args.alg.now.k in
    let f = c.args.alg.now.f in
    record {
      z = c.requires.z;
      w = subst (IsElem L f) (sym c.index-b-l.is) (c.requires.b c.loop-l.l c.index-b-l.result
          (omega (arith, c.loop-l-test.true, c.requires.count)));
      list = c.loop-l.invariant.elems;
    }

pub loop-l-init : goal.loop-l-init
loop-l-init g c =
    levels-none (g.K.Ring.elements c.args.alg.now.k) (g.K.Ring.lawful c.args.alg.now.k)
    c.args.alg.now.f c.args.list.items c.args.z.now c.args.b.now c.args.counts.now c.requires.list

pub loop-l-preserved : goal.loop-l-preserved
loop-l-preserved g c =
    let K = g.K.Ring.elements c.args.alg.now.k in
    let L = g.K.Ring.lawful c.args.alg.now.k in
    let f = c.args.alg.now.f in
    let w = c.index-b-l.result in
    levels-more K L f c.args.list.items c.loop-l.longer.items c.in_ok-longer.longer.items
    c.args.z.now w c.args.b.now c.args.counts.now c.loop-l.l c.loop-l.invariant
    c.in_ok-longer.ensures
    (ap (elem_of L f) c.index-b-l.is ∙ sym (elem-at K L f c.args.b.now c.loop-l.l w
    (omega (arith, c.loop-l-test.true, c.requires.count))))

pub returns : goal.returns
returns g c =
    let whole : c.loop-l.l ≡ length c.args.counts.now = omega (
      arith,
      c.loop-l-test.false,
      c.loop-l.auto.l-end,
    ) in
    subst (λ n. HasLevels (g.K.Ring.lawful c.args.alg.now.k) c.args.alg.now.f c.args.list.items
    c.args.z.now c.args.b.now c.args.counts.now n c.loop-l.longer.items) whole c.loop-l.invariant
