use Rattle.std.proofs.Common.{◌≡◌, ◌+◌, true, false, sym, ◌∙◌, subst, arith, ap}
use Rattle.ff_list.specs.Searches.{AreNonzeroBelow}
use Rattle.ff_list.proofs.SlopeLists.{none-below, with-zero, with-nonzero}
use Rattle.ff_list.proofs.slopes.slopes.Goals as goal
use Rattle.ff_list.proofs.slopes.slopes.Goals.{then-not-is_zero+in_ok-push, else-not-is_zero}

pub loop-i-init : goal.loop-i-init
loop-i-init g c =
    none-below (g.K.Ring.elements c.args.k.now) c.new-slopes.result.items c.new-slopes.ensures.items

pub loop-i-preserved : goal.loop-i-preserved
loop-i-preserved g c =
    let k = c.args.k.now in
    let F = g.K.Ring.elements k in
    let finite = g.met.K.FiniteField.is_finite_field k in
    let tests = g.met.K.Ring.tests k in
    let n = c.loop-i.i in
    let list = c.loop-i.slopes.items in
    let a = c.nth-a.result in
    let h = c.loop-i.invariant in
    elim c.if-not-is_zero.branch [
      | then-not-is_zero+in_ok-push w ↦
          subst (λ v. AreNonzeroBelow F (n + 1) v.items) (sym w.slopes-is)
          (subst (AreNonzeroBelow F (n + 1)) (sym w.in_ok-push.ensures.items)
          (with-nonzero F finite n list a h c.nth-a.ensures.value c.nth-a.ensures.element
          (λ z. let k : false ≡ true = sym w.if-not-is_zero.true ∙ c.is_zero.ensures
          ∙ ap (λ v. F.same v F.zero) z ∙ tests.same_refl F.zero in absurd (cc))
          (omega (arith, c.loop-i-test.true, c.count-i-end.ensures))))
      | else-not-is_zero w ↦
          subst (λ v. AreNonzeroBelow F (n + 1) v.items) (sym w.slopes-is)
          (with-zero F finite n list a h c.nth-a.ensures.value
          (tests.same_true (F.value a) F.zero (sym c.is_zero.ensures ∙ w.if-not-is_zero.false)))
    ]

pub returns : goal.returns
returns g c =
    let F = g.K.Ring.elements c.args.k.now in
    subst (λ n. AreNonzeroBelow F n c.loop-i.slopes.items)
    (omega (arith, c.loop-i.auto.i-end, c.loop-i-test.false) ∙ c.count-i-end.ensures)
    c.loop-i.invariant
