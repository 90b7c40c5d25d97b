use Rattle.std.proofs.Common.{◌-◌, length, ◌∙◌, refl, ap, arith, []}
use Rattle.std.proofs.lemmas.List.{get_or_default}
use Rattle.ff_ring.specs.Ring.{element_in}
use Rattle.ff_ring.proofs.RingElements.{zero-element, value-none, value-more, value-whole}
use Rattle.ff_ring.proofs.shift.ring_eval.Goals as goal

pub loop-i-init : goal.loop-i-init
loop-i-init g c =
    let F = g.K.Ring.elements c.args.k.now in
    let L = g.K.Ring.lawful c.args.k.now in
    let s = c.args.s.now in
    let p = c.args.p.now in
    let zero = c.in_ok-value.value.items in
    let h = c.in_ok-value.ensures in
    record {
      below = omega arith;
      coords = record { each = h.each; count = h.count ∙ c.requires.a.count };
      value = value-none F L s (element_in F s c.args.a.now) (element_in F s zero) p (length p)
          (omega arith) (zero-element F L s zero (length c.args.a.now)
          (omega (arith, c.requires.a.count, c.requires.table.weights)) h);
    }

pub loop-i-preserved : goal.loop-i-preserved
loop-i-preserved g c =
    let F = g.K.Ring.elements c.args.k.now in
    let L = g.K.Ring.lawful c.args.k.now in
    let s = c.args.s.now in
    let i = c.loop-i.i in
    let p = c.args.p.now in
    let old = c.loop-i.invariant in
    let new = c.in_ok-value-2.ensures in
    record {
      below = omega (arith, old.below);
      coords = new.coords;
      value = value-more F L s (element_in F s c.args.a.now) (element_in F s c.deref.result.now)
          (element_in F s c.in_ok-value-2.value.items) p c.rows.result.now i (i - 1)
          (omega (arith, c.loop-i-test.true)) old.below refl
          (c.rows.ensures ∙ c.index-p-i.is ∙ get_or_default p (i - 1) c.index-p-i.result []
          (omega (arith, c.loop-i-test.true, old.below)))
          new.value (ap (element_in F s) c.deref.ensures.value ∙ old.value);
    }

pub returns-clause-value : goal.returns-clause-value
returns-clause-value g c =
    let F = g.K.Ring.elements c.args.k.now in
    let L = g.K.Ring.lawful c.args.k.now in
    value-whole F L c.args.s.now (element_in F c.args.s.now c.args.a.now)
    (element_in F c.args.s.now c.loop-i.value.items) c.args.p.now
    c.loop-i.i (omega (arith, c.loop-i-test.false)) c.loop-i.invariant.value
