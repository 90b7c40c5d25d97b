use Rattle.std.proofs.Common.{◌+◌}
use Rattle.std.proofs.Common.{length, refl, sym, ◌∙◌, ap, subst, arith}
use Rattle.std.proofs.lemmas.Bool.{false≢true}
use Rattle.ff_lin.specs.Space.{rows_of, IsIn}
use Rattle.ff_lin.proofs.Growth.{same-in}
use Rattle.ff_relation.proofs.RestLemmas.{vectors-last}
use Rattle.ff_relation.proofs.annihilator.rests_of.Goals as goal

pub loop-t-init : goal.loop-t-init
loop-t-init g c = record {
  form = c.in_ok-rests.ensures.form;
  count = c.in_ok-rests.ensures.count;
  exact = c.in_ok-rests.ensures.exact c.requires.table.weights;
}

pub loop-t-preserved : goal.loop-t-preserved
loop-t-preserved g c =
    let F = g.K.Ring.elements c.args.k.now in
    record {
      form = c.in_ok-rests-2.ensures.form;
      count = c.in_ok-rests-2.ensures.count ∙ ap (λ n. n + 1) c.loop-t.invariant.count;
      exact = λ w b clear. c.in_ok-rests-2.ensures.exact w b _ (c.loop-t.invariant.exact w b clear)
          (λ h. false≢true (c.if-contains.ensures.1 (subst (IsIn F c.loop-t.rests.span.basis)
          (sym c.deref.ensures.value) h)));
    }

pub returns-then-contains-clause-last : goal.returns-then-contains-clause-last
returns-then-contains-clause-last g c = λ w b clear.
    let F = g.K.Ring.elements c.args.k.now in
    let L = g.K.Ring.lawful c.args.k.now in
    let rests = c.loop-t.rests in
    (same-in F L.laws rests.span.basis (rows_of rests.before.items) rests.last.items
    (c.loop-t.invariant.exact w b clear).span).0
    (subst (IsIn F rests.span.basis) c.deref.ensures.value (c.if-contains.ensures.0 refl))

pub returns-clause-last : goal.returns-clause-last
returns-clause-last g c = λ w b clear.
    let F = g.K.Ring.elements c.args.k.now in
    let L = g.K.Ring.lawful c.args.k.now in
    let rests = c.loop-t.rests in
    let form = c.loop-t.invariant.form in
    vectors-last F L rests.before.items rests.last (length c.args.p.now.gaps.items)
    (omega (
      arith,
      c.loop-t.invariant.count,
      c.loop-t-test.false,
      c.loop-t.auto._t-end,
      c.len-t-end.ensures,
    )) form.before form.last (c.loop-t.invariant.exact w b clear).alone
