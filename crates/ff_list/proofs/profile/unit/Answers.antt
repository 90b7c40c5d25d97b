use Rattle.std.proofs.Common.{arith, sym, subst, All}
use Rattle.std.proofs.lemmas.List.Elements.{All-push}
use Rattle.ff_theory.specs.Ring.{IsElement}
use Rattle.ff_list.proofs.profile.unit.Goals as goal

pub loop-j-preserved : goal.loop-j-preserved
loop-j-preserved g c =
    let F = g.K.Ring.elements c.args.k.now in
    record {
      each = subst (All (IsElement F)) (sym c.in_ok-push.ensures.items)
          (All-push (IsElement F) c.loop-j.vector.items c.unit_entry.result c.loop-j.invariant.each
          c.unit_entry.ensures);
      len = omega (arith, c.in_ok-push.ensures.len, c.loop-j.invariant.len);
    }
