use Rattle.std.proofs.Common.{◌≡◌, ◌∙◌, ◌-◌, sym, ap, arith, length, get_or, []}
use Rattle.ff_theory.specs.Vector.{vector_of, vectors_of, IsVector}
use Rattle.ff_describe.specs.Readings.{AreZero}
use Rattle.ff_lin.proofs.Compare.{true-is-false}
use Rattle.ff_describe.proofs.RowLemmas.{led-row, read-row, held-row, held-index, more-below}
use Rattle.ff_describe.proofs.expression.last_led.Goals as goal

pub are_zero-requires : goal.are_zero-requires
are_zero-requires g c =
    let F = g.K.Ring.elements c.args.k.now in
    let s = c.args.space.now in
    let v : IsVector F s.len c.deref.result.now = held-row F s c.requires.space
    c.basis-rows.result.now (c.loop-i.i - 1) c.index-rows-i.result c.deref.result.now
    c.basis-rows.ensures (omega arith) c.index-rows-i.is c.deref.ensures.value
    (omega (arith, c.loop-i-test.true, c.loop-i.invariant.below)) in
    record {
      row = v.each;
      room = omega (arith, v.len, c.requires.room);
    }

pub returns-then-not-are_zero-clause-led : goal.returns-then-not-are_zero-clause-led
returns-then-not-are_zero-clause-led g c =
    let F = g.K.Ring.elements c.args.k.now in
    let s = c.args.space.now in
    let i = c.loop-i.i - 1 in
    let e : get_or s.basis i [] ≡ c.deref.result.now = read-row s c.basis-rows.result.now i
    c.index-rows-i.result c.index-rows-i.result c.basis-rows.ensures
    (held-index F s c.basis-rows.result.now c.loop-i.i c.basis-rows.ensures
    (omega (arith, c.loop-i-test.true)) c.loop-i.invariant.below) c.index-rows-i.is
    ∙ sym c.deref.ensures.value in
    led-row F s c.requires.space c.args.n i
    (omega (arith, c.loop-i-test.true, c.loop-i.invariant.below))
    (λ h. absurd (true-is-false _ c.if-not-are_zero.true (c.are_zero.ensures.1
    (λ j a b. ap (λ t. vector_of F t j) (sym e) ∙ h j a b))))

pub loop-i-preserved : goal.loop-i-preserved
loop-i-preserved g c =
    let F = g.K.Ring.elements c.args.k.now in
    let s = c.args.space.now in
    let i = c.loop-i.i - 1 in
    let e : get_or s.basis i [] ≡ c.deref.result.now = read-row s c.basis-rows.result.now i
    c.index-rows-i.result c.index-rows-i.result c.basis-rows.ensures
    (held-index F s c.basis-rows.result.now c.loop-i.i c.basis-rows.ensures
    (omega (arith, c.loop-i-test.true)) c.loop-i.invariant.below) c.index-rows-i.is
    ∙ sym c.deref.ensures.value in
    record {
      below = omega (arith, c.loop-i.invariant.below);
      zeros = more-below (λ i. AreZero F c.args.n (vectors_of F s.basis i)) c.loop-i.i
          (length s.basis) (omega (arith, c.loop-i-test.true)) c.loop-i.invariant.zeros
          (λ j b. ap (λ t. vector_of F t j) e
          ∙ c.are_zero.ensures.0 c.if-not-are_zero.false j (omega arith) b);
    }
