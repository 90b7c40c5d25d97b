use Rattle.std.proofs.Common.{◌≡◌, ◌-◌, sym, ap, subst, arith, length}
use Rattle.ff_data.specs.Combinations.{AreElems, elems_of}
use Rattle.ff_describe.specs.Levels.{raised, Extends}
use Rattle.ff_describe.proofs.ElemLemmas.{extends-none, extends-push, extends-last}
use Rattle.ff_describe.proofs.levels.push_powers.Goals as goal

pub next_power-requires : goal.next_power-requires
next_power-requires g c =
    let K = g.K.Ring.elements c.args.alg.now.k in
    let L = g.K.Ring.lawful c.args.alg.now.k in
    let f = c.args.alg.now.f in
    let z = c.args.z.now in
    let w = c.args.w.now in
    let e = c.deref.ensures.value in
    record {
      z = c.requires.z;
      w = c.requires.w;
      list = subst (AreElems L f) (sym e) c.loop-a.invariant.elems;
      some = λ pos. omega (arith, pos, c.loop-a.invariant.len, ap length e);
      last = λ pos. subst (λ ws. elems_of L f ws (length ws - 1) ≡ raised L f z w (c.loop-a.a - 1))
          (sym e) (extends-last K L f c.args.list.items c.loop-a.longer.items c.loop-a.a
          (raised L f z w) c.loop-a.invariant pos);
    }

pub loop-a-init : goal.loop-a-init
loop-a-init g c =
    let L = g.K.Ring.lawful c.args.alg.now.k in
    extends-none (g.K.Ring.elements c.args.alg.now.k) L c.args.alg.now.f c.args.list.items
    (raised L c.args.alg.now.f c.args.z.now c.args.w.now) c.requires.list

pub loop-a-preserved : goal.loop-a-preserved
loop-a-preserved g c =
    let L = g.K.Ring.lawful c.args.alg.now.k in
    extends-push (g.K.Ring.elements c.args.alg.now.k) L c.args.alg.now.f c.args.list.items
    c.loop-a.longer.items c.push.new.self.items c.loop-a.a
    (raised L c.args.alg.now.f c.args.z.now c.args.w.now) c.in_ok-next.next c.loop-a.invariant
    c.in_ok-next.ensures c.in_ok-push.ensures.items

pub returns : goal.returns
returns g c =
    let L = g.K.Ring.lawful c.args.alg.now.k in
    let whole : c.loop-a.a ≡ c.args.count = omega (
      arith,
      c.loop-a-test.false,
      c.loop-a.auto.a-end,
    ) in
    subst (λ n. Extends L c.args.alg.now.f c.args.list.items n
    (raised L c.args.alg.now.f c.args.z.now c.args.w.now) c.loop-a.longer.items) whole
    c.loop-a.invariant
