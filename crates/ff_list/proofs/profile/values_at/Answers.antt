use Rattle.std.proofs.Common.{arith, sym, subst, All}
use Rattle.std.proofs.lemmas.List.Elements.{All-push}
use Rattle.ff_theory.specs.Ring.{IsElement}
use Rattle.ff_list.proofs.profile.values_at.Goals as goal

pub loop-i-preserved : goal.loop-i-preserved
loop-i-preserved g c =
    let F = g.K.Ring.elements c.args.k.now in
    record {
      each = subst (All (IsElement F)) (sym c.in_ok-push.ensures.items)
          (All-push (IsElement F) c.loop-i.values.items c.value_at.result c.loop-i.invariant.each
          c.value_at.ensures);
      len = omega (arith, c.in_ok-push.ensures.len, c.loop-i.invariant.len);
    }
