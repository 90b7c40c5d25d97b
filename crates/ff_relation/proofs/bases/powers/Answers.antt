use Rattle.std.proofs.Common.{◌+◌, ◌<◌, [], length, refl, sym, ◌∙◌, ap, arith}
use Rattle.std.proofs.lemmas.List.{get_or_default}
use Rattle.ff_theory.specs.Ring.{power}
use Rattle.ff_ring.specs.Ring.{ring_in, element_in}
use Rattle.ff_ring.proofs.RingElements.{list-none, list-push}
use Rattle.ff_relation.proofs.BaseLemmas.{powers-push, next-power}
use Rattle.ff_relation.proofs.bases.powers.Goals as goal

pub loop-i-init : goal.loop-i-init
loop-i-init g c =
    let F = g.K.Ring.elements c.args.k.now in
    let L = g.K.Ring.lawful c.args.k.now in
    let s = c.args.s.now in
    let w = element_in F s c.args.a.now in
    let none = c.new-list.result.items in
    let x = c.in_ok-basis_element.field-0 in
    let e = c.in_ok-push.ensures.items in
    record {
      form = list-push F L s none c.push.new.self.items x 0 (0 + 1) e refl
          (list-none F L s none c.new-list.ensures.items) c.in_ok-basis_element.ensures.form;
      exact = λ rule. powers-push F L s w none c.push.new.self.items x e
          (λ j q. absurd (omega (arith, q, ap length c.new-list.ensures.items)))
          (c.in_ok-basis_element.ensures.exact c.requires.table.weights
          ∙ sym (ap (λ n. power (ring_in F s) w (length n)) c.new-list.ensures.items));
    }

pub loop-i-preserved : goal.loop-i-preserved
loop-i-preserved g c =
    let F = g.K.Ring.elements c.args.k.now in
    let L = g.K.Ring.lawful c.args.k.now in
    let s = c.args.s.now in
    let w = element_in F s c.args.a.now in
    let list = c.loop-i.list.items in
    let i = c.loop-i.i in
    let x = c.in_ok-next.next in
    let e = c.in_ok-push-2.ensures.items in
    let inside : i < length list = omega (arith, c.loop-i.invariant.form.count) in
    record {
      form = list-push F L s list c.push-in-loop-i.new.self.items x (i + 1) (i + 1 + 1) e refl
          c.loop-i.invariant.form c.in_ok-next.ensures.form;
      exact = λ rule. powers-push F L s w list c.push-in-loop-i.new.self.items x e
          (c.loop-i.invariant.exact rule)
          (next-power F L s c.requires.table.weights rule w (element_in F s x) i (length list)
          c.loop-i.invariant.form.count
          (c.in_ok-next.ensures.exact ∙ ap (λ t. (ring_in F s).mul t w)
          (ap (element_in F s) (c.rows.ensures ∙ c.index.ensures
          ∙ get_or_default list i c.index.result.now [] inside)
          ∙ c.loop-i.invariant.exact rule i inside)));
    }

pub returns-clause-exact : goal.returns-clause-exact
returns-clause-exact g c = λ rule. c.loop-i.invariant.exact rule
