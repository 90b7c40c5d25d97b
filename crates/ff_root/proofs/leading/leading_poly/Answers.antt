use Rattle.std.proofs.Common.{◌∙◌, ◌∷◌, ap, sym, subst, refl, arith, [], length, map, All}
use Rattle.std.proofs.lemmas.List.{get_or_default, length-append}
use Rattle.std.proofs.lemmas.List.Elements.{All-push}
use Rattle.ff_theory.specs.Ring.{IsElement}
use Rattle.ff_theory.specs.Poly.{coeff}
use Rattle.ff_theory.proofs.Coeffs.{coeff-push}
use Rattle.ff_table.specs.Roots.{leading_poly}
use Rattle.ff_ring.specs.Ring.{table_in, elements_in}
use Rattle.ff_root.proofs.LeadLemmas.{power-none, power-more, leading-entry, leading-whole}
use Rattle.ff_root.proofs.LeadLemmas.{level-is}
use Rattle.ff_root.proofs.leading.leading_poly.Goals as goal

pub loop-i-init : goal.loop-i-init
loop-i-init g c =
    let F = g.K.Ring.elements c.args.k.now in
    let L = g.K.Ring.lawful c.args.k.now in
    let none = c.in_ok-list.ensures.items in
    record {
      count = ap length none;
      each = λ k d h. absurd (omega (arith, h, ap length none));
      power = record { class = c.requires.table.positive; c = c.one-2.ensures.element };
      lead = λ rule. power-none F L c.args.s.now c.requires.table rule c.args.t 0 _ refl refl
          c.one-2.ensures.value;
      value = λ rule j h. absurd (omega (arith, h));
    }

pub loop-i-preserved : goal.loop-i-preserved
loop-i-preserved g c =
    let F = g.K.Ring.elements c.args.k.now in
    let L = g.K.Ring.lawful c.args.k.now in
    let s = c.args.s.now in
    let t = c.args.t in
    let p = c.args.p.now in
    let i = c.loop-i.i in
    let old = c.loop-i.invariant in
    let list = c.loop-i.list.items in
    let x = c.coefficient_at.result in
    let items = c.in_ok-push.ensures.items in
    record {
      count = omega (arith, ap length items, length-append list (x ∷ []), old.count);
      each = subst (All (IsElement F)) (sym items)
          (All-push (IsElement F) list x old.each c.coefficient_at.ensures.element);
      power = c.product_lead-power.ensures.lead;
      lead = λ rule. power-more F L s c.requires.table rule t i _ c.loop-i.power
          c.product_lead-power.result _ refl c.class_of.ensures.value c.one.ensures.value
          (old.lead rule) c.product_lead-power.ensures.class
          (c.product_lead-power.ensures.value rule);
      value = λ rule j h. ap (λ l. coeff F.ring (map F.value l) j) items
          ∙ coeff-push F.ring F.value list x
          (coeff F.ring (leading_poly F.ring (table_in F s) t (elements_in F s p))) i old.count
          (old.value rule)
          (leading-entry F L s c.requires.table rule t (level-is F L s c.requires.table rule t
          c.requires.level) p c.rows.result.now c.loop-i.power i c.steps.result
          c.top_weight-n.result x (omega (arith, c.loop-i-test.true))
          (c.rows.ensures ∙ c.index-p-i.is ∙ get_or_default p i c.index-p-i.result []
          (omega (arith, c.loop-i-test.true)))
          (c.top_weight-n.ensures rule) c.steps.ensures.value (old.lead rule)
          (c.coefficient_at.ensures.value rule)) j (omega (arith, h));
    }

pub returns-clause-value : goal.returns-clause-value
returns-clause-value g c = λ rule.
    let F = g.K.Ring.elements c.args.k.now in
    let L = g.K.Ring.lawful c.args.k.now in
    leading-whole F L c.args.s.now c.requires.table rule c.args.t c.args.p.now c.loop-i.list.items
    c.loop-i.i c.loop-i.invariant.count (omega (arith, c.loop-i.auto.i-end, c.loop-i-test.false))
    (c.loop-i.invariant.value rule)
