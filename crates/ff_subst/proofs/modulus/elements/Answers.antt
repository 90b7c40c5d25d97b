use Rattle.std.proofs.Common.{All, arith, subst, sym}
use Rattle.ff_theory.specs.Ring.{IsElement}
use Rattle.ff_elem.proofs.RowLemmas.{pushed-each}
use Rattle.ff_subst.proofs.modulus.elements.Goals as goal

pub loop-i-init : goal.loop-i-init
loop-i-init g c =
    let K = g.K.Ring.elements c.args.k.now in
    subst (All (IsElement K)) (sym c.new-list.ensures.items) (λ k d l. absurd (omega arith))

pub loop-i-preserved : goal.loop-i-preserved
loop-i-preserved g c =
    let K = g.K.Ring.elements c.args.k.now in
    pushed-each (IsElement K) c.loop-i.list.items c.element.result _ c.in_ok-push.ensures.items
    c.loop-i.invariant c.element.ensures
