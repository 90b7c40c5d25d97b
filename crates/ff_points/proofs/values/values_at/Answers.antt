use Rattle.std.proofs.Common.{map, sym, ◌∙◌, ap, subst, All}
use Rattle.std.proofs.lemmas.List.{take_all}
use Rattle.std.proofs.lemmas.List.Elements.{All-push}
use Rattle.ff_theory.specs.Ring.{IsElement}
use Rattle.ff_theory.specs.Eval.{eval_list}
use Rattle.ff_points.proofs.RootLemmas.{one_more}
use Rattle.ff_points.proofs.values.values_at.Goals as goal

pub loop-p-preserved : goal.loop-p-preserved
loop-p-preserved g c =
    let F = g.K.Ring.elements c.args.k.now in
    let a = F.value c.args.a in
    let p = c.p-item.result in
    let e = c.in_ok-push.ensures.items in
    let h = c.loop-p.invariant in
    record {
      each = subst (All (IsElement F)) (sym e) (All-push (IsElement F) c.loop-p.values.items
          c.evaluate.result h.each c.evaluate.ensures.element);
      value = one_more F.value (eval_list F.ring F.value a) c.loop-p.values.items
          c.push.new.self.items c.evaluate.result c.args.rows.now c.loop-p.p-index p
          c.loop-p-test.true e (c.evaluate.ensures.value
          ∙ ap (eval_list F.ring F.value a) (c.coeffs.ensures ∙ c.p-item.is)) h.value;
    }

pub returns-clause-value : goal.returns-clause-value
returns-clause-value g c =
    let F = g.K.Ring.elements c.args.k.now in
    c.loop-p.invariant.value ∙ ap (map (eval_list F.ring F.value (F.value c.args.a)))
    (take_all c.loop-p.p-index c.args.rows.now c.loop-p-test.false)
