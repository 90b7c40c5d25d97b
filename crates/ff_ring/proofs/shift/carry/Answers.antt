use Rattle.std.proofs.Common.{◌≡◌, ◌∷◌, ◌∙◌, length, get_or, refl, ap, arith, [], sym, subst}
use Rattle.std.proofs.lemmas.List.{get_or_default}
use Rattle.ff_data.specs.Systems.{AreCoords}
use Rattle.ff_ring.specs.Ring.{monomial_in}
use Rattle.ff_ring.proofs.RingElements.{carry-start, carry-more, carry-end}
use Rattle.ff_ring.proofs.RingElements.{list-none, list-push, entry-after}
use Rattle.ff_ring.proofs.shift.carry.Goals as goal

pub loop-i-init : goal.loop-i-init
loop-i-init g c =
    let F = g.K.Ring.elements c.args.k.now in
    let L = g.K.Ring.lawful c.args.k.now in
    let s = c.args.s.now in
    let none = c.new-sum.ensures.items in
    record {
      coords = list-none F L s c.new-sum.result.items none;
      value = carry-start F L s (monomial_in F s c.args.a.now) c.args.h.now c.args.p.now
          c.new-sum.result.items 0 none refl;
    }

pub loop-i-preserved : goal.loop-i-preserved
loop-i-preserved g c =
    let F = g.K.Ring.elements c.args.k.now in
    let L = g.K.Ring.lawful c.args.k.now in
    let s = c.args.s.now in
    let i = c.loop-i.i in
    let p = c.args.p.now in
    let h = c.args.h.now in
    let sum = c.loop-i.sum.items in
    let new = c.push.new.self.items in
    let x = c.in_ok-plus_monomial_product.field-0 in
    record {
      coords = list-push F L s sum new x i _ c.in_ok-push.ensures.items (omega arith)
          c.loop-i.invariant.coords c.in_ok-plus_monomial_product.ensures.coords;
      value = carry-more F L s (monomial_in F s c.args.a.now) h p sum new x c.rows-low.result.now
          c.rows.result.now i _ (omega (arith, c.loop-i-test.true)) (omega arith)
          c.in_ok-push.ensures.items (c.rows-low.ensures ∙ c.entry_after.ensures)
          (c.rows.ensures ∙ c.index-p-i.is ∙ get_or_default p i c.index-p-i.result []
          (omega (arith, c.loop-i-test.true)))
          c.in_ok-plus_monomial_product.ensures.value c.loop-i.invariant.value;
    }

pub returns-clause-coords : goal.returns-clause-coords
returns-clause-coords g c =
    let F = g.K.Ring.elements c.args.k.now in
    let L = g.K.Ring.lawful c.args.k.now in
    let s = c.args.s.now in
    let i = c.loop-i.i in
    let p = c.args.p.now in
    let h = c.args.h.now in
    list-push F L s c.loop-i.sum.items c.push-2.new.self.items c.in_ok-copy.field-0 i _
    c.in_ok-push-2.ensures.items (omega (arith, c.loop-i-test.false, c.loop-i.auto.i-end))
    c.loop-i.invariant.coords
    (subst (AreCoords F s) (sym (c.in_ok-copy.ensures ∙ c.entry_after-2.ensures))
    (entry-after F L s h p (length p) (omega arith) c.requires.h c.requires.p))

pub returns-clause-value : goal.returns-clause-value
returns-clause-value g c =
    let F = g.K.Ring.elements c.args.k.now in
    let L = g.K.Ring.lawful c.args.k.now in
    let s = c.args.s.now in
    let p = c.args.p.now in
    carry-end F L s (monomial_in F s c.args.a.now) c.args.h.now p c.loop-i.sum.items
    c.push-2.new.self.items c.in_ok-copy.field-0 c.loop-i.i (omega (arith, c.loop-i-test.false))
    c.in_ok-push-2.ensures.items (c.in_ok-copy.ensures ∙ c.entry_after-2.ensures
    ∙ ap (λ n. get_or (c.args.h.now ∷ p) n []) (let e : length p ≡ c.loop-i.i =
    omega (arith, c.loop-i-test.false, c.loop-i.auto.i-end) in e))
    c.loop-i.invariant.value
