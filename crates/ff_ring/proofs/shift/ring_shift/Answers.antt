use Rattle.std.proofs.Common.{◌-◌, length, ◌∙◌, refl, ap, arith, []}
use Rattle.std.proofs.lemmas.List.{get_or_default}
use Rattle.ff_ring.specs.Ring.{elements_in, monomial_in}
use Rattle.ff_ring.proofs.RingElements.{list-none, shift-none, shift-more, shift-whole}
use Rattle.ff_ring.proofs.shift.ring_shift.Goals as goal

pub loop-i-init : goal.loop-i-init
loop-i-init g c =
    let F = g.K.Ring.elements c.args.k.now in
    let L = g.K.Ring.lawful c.args.k.now in
    let s = c.args.s.now in
    let p = c.args.p.now in
    let none = c.new-moved.ensures.items in
    let empty = list-none F L s c.new-moved.result.items none in
    record {
      below = omega arith;
      moved = record { each = empty.each; count = omega (arith, empty.count) };
      value = shift-none F L s (monomial_in F s c.args.a.now) p c.new-moved.result.items (length p)
          (omega arith) none;
    }

pub loop-i-preserved : goal.loop-i-preserved
loop-i-preserved g c =
    let F = g.K.Ring.elements c.args.k.now in
    let L = g.K.Ring.lawful c.args.k.now in
    let s = c.args.s.now in
    let i = c.loop-i.i in
    let p = c.args.p.now in
    let old = c.loop-i.invariant in
    let new = c.in_ok-moved.ensures in
    record {
      below = omega (arith, old.below);
      moved = record {
        each = new.coords.each;
        count = omega (
          arith,
          new.coords.count,
          ap length c.deref.ensures.value,
          old.moved.count,
          old.below,
          c.loop-i-test.true,
        );
      };
      value = shift-more F L s (monomial_in F s c.args.a.now) p c.deref.result.now
          c.in_ok-moved.moved.items c.index-p-i.result i (i - 1)
          (omega (arith, c.loop-i-test.true)) old.below refl
          (c.index-p-i.is ∙ get_or_default p (i - 1) c.index-p-i.result []
          (omega (arith, c.loop-i-test.true, old.below)))
          new.value (ap (elements_in F s) c.deref.ensures.value ∙ old.value);
    }

pub returns-clause-value : goal.returns-clause-value
returns-clause-value g c =
    let F = g.K.Ring.elements c.args.k.now in
    let L = g.K.Ring.lawful c.args.k.now in
    shift-whole F L c.args.s.now (monomial_in F c.args.s.now c.args.a.now) c.args.p.now
    c.loop-i.moved.items c.loop-i.i (omega (arith, c.loop-i-test.false)) c.loop-i.invariant.value
