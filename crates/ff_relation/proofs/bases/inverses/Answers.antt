use Rattle.std.proofs.Common.{◌≡◌, ◌+◌, ◌*◌, [], refl, sym, ◌∙◌, ap, subst, arith}
use Rattle.std.proofs.lemmas.List.{get_or_default}
use Rattle.ff_theory.specs.Ring.{power}
use Rattle.ff_table.specs.Level.{at_level}
use Rattle.ff_table.specs.Table.{Weighs}
use Rattle.ff_ring.specs.Ring.{table_in, ring_in, element_in}
use Rattle.ff_relation.proofs.BaseLemmas.{numbers-push, power-heavy}
use Rattle.ff_relation.proofs.SplitLemmas.{vector-push}
use Rattle.ff_relation.proofs.bases.inverses.Goals as goal

pub loop-i-preserved : goal.loop-i-preserved
loop-i-preserved g c =
    let F = g.K.Ring.elements c.args.k.now in
    let L = g.K.Ring.lawful c.args.k.now in
    let s = c.args.s.now in
    let S = table_in F s in
    let list = c.args.list.now in
    let old = c.loop-i.inverses.items in
    let i = c.loop-i.i in
    let x = c.inverse_of_leading.result in
    let e = c.in_ok-push.ensures.items in
    record {
      form = vector-push F old c.push.new.self.items x i (i + 1) e refl c.loop-i.invariant.form
          c.inverse_of_leading.ensures.element;
      value = λ rule table w W h powers.
          let here : element_in F s c.rows.result.now ≡ power (ring_in F s) w i =
          ap (element_in F s) (c.rows.ensures ∙ c.index-list-i.is
          ∙ get_or_default list i c.index-list-i.result [] c.loop-i-test.true)
          ∙ powers i c.loop-i-test.true in
          numbers-push F.value
          (λ j. F.inverse (at_level F.ring S (j * W) (power (ring_in F s) w j))) old
          c.push.new.self.items x i e c.loop-i.invariant.form.len
          (c.loop-i.invariant.value rule table w W h powers)
          (c.inverse_of_leading.ensures.value rule table (i * W)
          (subst (λ a. Weighs F.ring S a (i * W)) (sym here)
          (power-heavy F L s table.weights rule w W i h))
          ∙ ap (λ a. F.inverse (at_level F.ring S (i * W) a)) here);
    }

pub returns-clause-value : goal.returns-clause-value
returns-clause-value g c = λ rule table w W h powers j q.
    c.loop-i.invariant.value rule table w W h powers j
    (omega (arith, q, c.loop-i.invariant.form.len))
