use Rattle.std.proofs.Common.{◌≡◌, ◌+◌, ◌∷◌, ◌++◌, ◌∙◌, [], length, true, false, refl, ap, sym}
use Rattle.std.proofs.Common.{subst, arith, All}
use Rattle.std.proofs.lemmas.List.{append-nil, get_or_default}
use Rattle.std.proofs.lemmas.List.Elements.{All-push}
use Rattle.ff_root.specs.declared.state.State.{State}
use Rattle.ff_table.specs.Roots.{finished}
use Rattle.ff_data.specs.Systems.{AreCoords}
use Rattle.ff_ring.specs.Ring.{table_in, element_in, elements_in}
use Rattle.ff_ring.proofs.RingElements.{elements-push}
use Rattle.ff_root.specs.States.{IsState, states_in}
use Rattle.ff_root.proofs.SearchLemmas.{grown, grown-all, finished_rest, finished-first}
use Rattle.ff_root.proofs.SearchLemmas.{finished-yes, finished-no, finished-none}
use Rattle.ff_root.proofs.StateLemmas.{ends-yes, ends-no}
use Rattle.ff_root.proofs.state.finished.Goals.{then-is_finished+in_ok-copy+in_ok-push}
use Rattle.ff_root.proofs.state.finished.Goals.{else-is_finished}
use Rattle.ff_root.proofs.state.finished.Goals as goal

pub loop-i-init : goal.loop-i-init
loop-i-init g c =
    let F = g.K.Ring.elements c.args.k.now in
    let s = c.args.s.now in
    let states = c.args.states.now in
    let none = c.new-sums.ensures.items in
    record {
      coords = λ k d h. absurd (omega (arith, h, ap length none));
      value = λ rule. ap (λ x. elements_in F s x ++ finished_rest F s states 0) none
          ∙ finished-first F s states 0 refl;
    }

pub loop-i-preserved : goal.loop-i-preserved
loop-i-preserved g c =
    let F = g.K.Ring.elements c.args.k.now in
    let L = g.K.Ring.lawful c.args.k.now in
    let s = c.args.s.now in
    let i = c.loop-i.i in
    let states = c.args.states.now in
    let a = c.index-states-i.result in
    let old = c.loop-i.sums.items in
    let inside = c.loop-i-test.true in
    let form = subst (λ x. IsState F s c.args.m x) (sym c.index-states-i.is)
    (c.requires.states i a inside) in
    let whole = finished F.field (table_in F s) (states_in F s states) in
    elim c.if-is_finished.branch [
      | then-is_finished+in_ok-copy+in_ok-push w ↦
          let b = w.index-states-i-then-is_finished.result in
          let x = w.in_ok-copy.field-0 in
          let same : x ≡ a.sum = w.in_ok-copy.ensures ∙ ap (λ (y : State). y.sum)
          (get_or_default states i b a inside ∙ sym c.index-states-i.is) in
          let items : c.if-is_finished.sums.items ≡ old ++ x ∷ [] =
          (λ k. (w.sums-is k).items) ∙ w.in_ok-push.ensures.items in
          record {
            coords = subst (All (AreCoords F s)) (sym items) (All-push (AreCoords F s) old x
                c.loop-i.invariant.coords (subst (AreCoords F s) (sym same) form.sum));
            value = λ rule. grown (elements_in F s old)
                (elements_in F s c.if-is_finished.sums.items)
                (element_in F s x ∷ []) (finished_rest F s states i)
                (finished_rest F s states _) whole
                (ap (elements_in F s) items ∙ elements-push F L s old x)
                (finished-yes F s states i _ a inside refl c.index-states-i.is
                (ends-yes F L s rule a.moved c.args.m c.requires.weights form.moved c.requires.some
                (c.is_finished.ensures.0 w.if-is_finished.true))
                ∙ ap (λ y. (element_in F s y ∷ []) ++ finished_rest F s states (i + 1)) (sym same))
                (c.loop-i.invariant.value rule);
          }
      | else-is_finished w ↦
          let items : c.if-is_finished.sums.items ≡ old = λ k. (w.sums-is k).items in
          record {
            coords = subst (All (AreCoords F s)) (sym items) c.loop-i.invariant.coords;
            value = λ rule. grown (elements_in F s old)
                (elements_in F s c.if-is_finished.sums.items)
                [] (finished_rest F s states i) (finished_rest F s states _) whole
                (ap (elements_in F s) items ∙ sym (append-nil (elements_in F s old)))
                (finished-no F s states i _ a inside refl c.index-states-i.is
                (ends-no F L s rule a.moved c.args.m c.requires.weights form.moved c.requires.some
                (λ h. let z : true ≡ false = sym (c.is_finished.ensures.1 h)
                ∙ w.if-is_finished.false in cc)))
                (c.loop-i.invariant.value rule);
          }
    ]

pub returns-clause-value : goal.returns-clause-value
returns-clause-value g c = λ rule.
    let F = g.K.Ring.elements c.args.k.now in
    let s = c.args.s.now in
    let states = c.args.states.now in
    grown-all (elements_in F s c.loop-i.sums.items) (finished_rest F s states c.loop-i.i)
    (finished F.field (table_in F s) (states_in F s states))
    (finished-none F s states c.loop-i.i c.loop-i-test.false) (c.loop-i.invariant.value rule)
