use Rattle.std.proofs.Common.{◌≡◌, ◌∙◌, sym, subst, refl, All, []}
use Rattle.std.proofs.lemmas.List.{take_all}
use Rattle.std.proofs.lemmas.List.Elements.{All-more}
use Rattle.ff_ring.proofs.EntryLemmas.{empty-list}
use Rattle.ff_ring.proofs.linear.is_zero_each.Goals as goal

pub loop-p-preserved : goal.loop-p-preserved
loop-p-preserved c = All-more (λ p. p ≡ []) c.args.c.now c.loop-p.p-index c.p-item.result
    c.loop-p-test.true c.loop-p.invariant (subst (λ p. p ≡ []) c.p-item.is
    (empty-list c.p-item.result (sym c.is_zero.ensures ∙ c.if-not-is_zero.false)))

pub returns : goal.returns
returns c = (
  λ _. subst (All (λ p. p ≡ [])) (take_all c.loop-p.p-index c.args.c.now
      c.loop-p-test.false) c.loop-p.invariant,
  λ _. refl,
)
