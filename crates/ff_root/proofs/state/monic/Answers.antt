use Rattle.std.proofs.Common.{◌≡◌, ◌∙◌, refl, ap, arith, []}
use Rattle.ff_ring.proofs.RingElements.{list-none, list-push}
use Rattle.ff_root.proofs.StateLemmas.{constants-first, constants-more, constants-last}
use Rattle.ff_theory.specs.Values.{poly_of}
use Rattle.ff_root.proofs.state.monic.Goals as goal

pub loop-i-init : goal.loop-i-init
loop-i-init g c =
    let F = g.K.Ring.elements c.args.k.now in
    let L = g.K.Ring.lawful c.args.k.now in
    let s = c.args.s.now in
    let none = c.new-items.ensures.items in
    record {
      coords = list-none F L s c.new-items.result.items none;
      value = constants-first F L s c.args.coeffs.now c.new-items.result.items 0 none refl;
    }

pub loop-i-preserved : goal.loop-i-preserved
loop-i-preserved g c =
    let F = g.K.Ring.elements c.args.k.now in
    let L = g.K.Ring.lawful c.args.k.now in
    let s = c.args.s.now in
    let i = c.loop-i.i in
    let old = c.loop-i.items.items in
    let new = c.push.new.self.items in
    let x = c.in_ok-constant.field-0 in
    record {
      coords = list-push F L s old new x i _ c.in_ok-push.ensures.items refl
          c.loop-i.invariant.coords c.in_ok-constant.ensures.coords;
      value = constants-more F L s c.args.coeffs.now old new x c.index-coeffs-i.result i _
          (omega (arith, c.loop-i-test.true)) refl c.in_ok-push.ensures.items c.index-coeffs-i.is
          c.in_ok-constant.ensures.value c.loop-i.invariant.value;
    }

pub returns-clause-coords : goal.returns-clause-coords
returns-clause-coords g c =
    let F = g.K.Ring.elements c.args.k.now in
    let L = g.K.Ring.lawful c.args.k.now in
    list-push F L c.args.s.now c.loop-i.items.items c.push-2.new.self.items
    c.in_ok-constant-2.field-0 c.loop-i.i _ c.in_ok-push-2.ensures.items
    (omega (arith, c.loop-i-test.false, c.loop-i.auto.i-end)) c.loop-i.invariant.coords
    c.in_ok-constant-2.ensures.coords

pub returns-clause-value : goal.returns-clause-value
returns-clause-value g c =
    let F = g.K.Ring.elements c.args.k.now in
    let L = g.K.Ring.lawful c.args.k.now in
    constants-last F L c.args.s.now c.args.coeffs.now c.loop-i.items.items c.push-2.new.self.items
    c.in_ok-constant-2.field-0 c.loop-i.i (poly_of F c.in_ok-one.one)
    (omega (arith, c.loop-i-test.false)) c.in_ok-push-2.ensures.items
    c.in_ok-constant-2.ensures.value c.in_ok-one.ensures.value c.loop-i.invariant.value
