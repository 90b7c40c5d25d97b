use Rattle.std.proofs.Common.{◌≡◌, sym, arith, subst, All}
use Rattle.std.proofs.lemmas.List.Elements.{All-push}
use Rattle.ff_theory.specs.Ring.{IsElement}
use Rattle.ff_poly.proofs.ZeroLists.{all_zeros}
use Rattle.ff_ring.proofs.product.zeros.Goals as goal

pub loop-j-preserved : goal.loop-j-preserved
loop-j-preserved g c =
    let F = g.K.Ring.elements c.args.k.now in
    let e = c.in_ok-push.ensures.items in
    let old = c.loop-j.zeros.items in
    record {
      len = omega (arith, c.in_ok-push.ensures.len, c.loop-j.invariant.len);
      each = subst (All (IsElement F)) (sym e) (All-push (IsElement F) old c.zero.result
          c.loop-j.invariant.each c.zero.ensures.element);
      zeros = subst (All (λ e. F.value e ≡ F.zero)) (sym e) (All-push (λ e. F.value e ≡ F.zero) old
          c.zero.result c.loop-j.invariant.zeros c.zero.ensures.value);
    }

pub returns-clause-value : goal.returns-clause-value
returns-clause-value g c = all_zeros (g.K.Ring.lawful c.args.k.now) c.loop-j.zeros.items
    c.loop-j.invariant.zeros
