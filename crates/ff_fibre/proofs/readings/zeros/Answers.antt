use Rattle.std.proofs.Common.{sym, subst, arith, All}
use Rattle.std.proofs.lemmas.List.Elements.{All-push}
use Rattle.ff_theory.specs.Ring.{IsElement}
use Rattle.ff_fibre.proofs.readings.zeros.Goals as goal

pub loop-j-preserved : goal.loop-j-preserved
loop-j-preserved g c =
    let F = g.K.Ring.elements c.args.k.now in
    record {
      len = omega (arith, c.in_ok-push.ensures.len, c.loop-j.invariant.len);
      each = subst (All (IsElement F)) (sym c.in_ok-push.ensures.items)
          (All-push (IsElement F) c.loop-j.zeros.items c.zero.result c.loop-j.invariant.each
          c.zero.ensures.element);
    }

pub returns : goal.returns
returns g c = record {
  each = c.loop-j.invariant.each;
  len = omega (arith, c.loop-j.invariant.len, c.loop-j-test.false, c.loop-j.auto._j-end);
}
