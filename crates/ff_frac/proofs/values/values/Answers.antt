use Rattle.std.proofs.Common.{◌≡◌, ℕ, [], length, get_or, sym, ap, subst, arith}
use Rattle.std.proofs.Common.{All}
use Rattle.std.proofs.lemmas.List.{get_or_default}
use Rattle.std.proofs.lemmas.List.Elements.{All-push}
use Rattle.ff_theory.specs.Ring.{IsElement}
use Rattle.ff_data.proofs.ListLemmas.{pushed-at}
use Rattle.ff_frac.specs.Places.{HasNumeratorValue}
use Rattle.ff_frac.proofs.values.values.Goals as goal

pub loop-plane-preserved : goal.loop-plane-preserved
loop-plane-preserved g c =
    let F = g.K.Ring.elements c.args.alg.now.k in
    let L = g.K.Ring.lawful c.args.alg.now.k in
    let planes = c.args.planes.now in
    let i = c.loop-plane.plane-index in
    let old = c.loop-plane.values.items in
    let v = c.in_ok-value.field-0 in
    let e = c.in_ok-push.ensures.items in
    let h = c.loop-plane.invariant in
    record {
      vector = record {
        each = subst (All (IsElement F)) (sym e) (All-push (IsElement F) old v h.vector.each
            c.in_ok-value.ensures.element);
        len = omega (arith, c.in_ok-push.ensures.len, h.vector.len);
      };
      value = pushed-at (λ j v. HasNumeratorValue L c.args.alg.now.f c.args.order.now
          c.args.point.now (get_or planes j []) v) 0 old v _ i e h.vector.len h.value
          (subst (λ N. HasNumeratorValue L c.args.alg.now.f c.args.order.now c.args.point.now N v)
          (get_or_default planes i c.plane-item.result [] c.loop-plane-test.true)
          (subst (λ N. HasNumeratorValue L c.args.alg.now.f c.args.order.now c.args.point.now N v)
          c.plane-item.is c.in_ok-value.ensures.value));
    }

pub returns-clause-value : goal.returns-clause-value
returns-clause-value g c i l = c.loop-plane.invariant.value i (omega (
  arith,
  c.loop-plane-test.false,
  c.loop-plane.auto.plane-index-end,
  l,
))
