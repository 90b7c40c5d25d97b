use Rattle.std.proofs.Common.{◌+◌, sym, ◌∙◌, ap, arith, subst, All}
use Rattle.std.proofs.lemmas.List.Elements.{All-push}
use Rattle.ff_theory.specs.Ring.{IsElement}
use Rattle.ff_theory.specs.Vector.{vector_of}
use Rattle.ff_theory.proofs.Coeffs.{coeff-push}
use Rattle.ff_lin.proofs.Entries.{entry}
use Rattle.ff_describe.proofs.coordinates.negatives.Goals as goal

pub loop-a-preserved : goal.loop-a-preserved
loop-a-preserved g c =
    let F = g.K.Ring.elements c.args.k.now in
    let e = c.in_ok-push.ensures.items in
    let old = c.loop-a.list.items in
    record {
      len = omega (arith, c.in_ok-push.ensures.len, c.loop-a.invariant.len);
      each = subst (All (IsElement F)) (sym e)
          (All-push (IsElement F) old c.neg.result c.loop-a.invariant.each c.neg.ensures.element);
      value = λ j l. ap (λ p. vector_of F p j) e
          ∙ coeff-push F.ring F.value old c.neg.result
          (λ a. F.neg (vector_of F c.args.row.now (c.args.at + a))) c.loop-a.a
          c.loop-a.invariant.len c.loop-a.invariant.value
          (c.neg.ensures.value ∙ ap F.neg (sym (entry F c.args.row.now (c.args.at + c.loop-a.a)
          (omega (arith, c.loop-a-test.true, c.requires.room))))) j l;
    }

pub returns-clause-vector : goal.returns-clause-vector
returns-clause-vector g c = record {
  each = c.loop-a.invariant.each;
  len = omega (arith, c.loop-a.invariant.len, c.loop-a-test.false, c.loop-a.auto.a-end);
}

pub returns-clause-value : goal.returns-clause-value
returns-clause-value g c a l = c.loop-a.invariant.value a
    (omega (arith, l, c.loop-a-test.false))
