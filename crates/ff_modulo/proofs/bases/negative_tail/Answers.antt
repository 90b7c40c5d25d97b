use Rattle.std.proofs.Common.{◌≡◌, ◌+◌, suc, sym, ◌∙◌, ap, subst, arith, All}
use Rattle.std.proofs.lemmas.List.Elements.{All-push}
use Rattle.ff_theory.specs.Ring.{IsElement}
use Rattle.ff_theory.specs.Vector.{vector_of}
use Rattle.ff_theory.proofs.Coeffs.{coeff-push}
use Rattle.ff_lin.proofs.Entries.{entry}
use Rattle.ff_modulo.proofs.bases.negative_tail.Goals as goal

pub loop-i-preserved : goal.loop-i-preserved
loop-i-preserved g c =
    let F = g.K.Ring.elements c.args.k.now in
    let v = c.args.v.now in
    let i = c.loop-i.i in
    let e = c.in_ok-push.ensures.items in
    let h = c.loop-i.invariant in
    let next : i + 1 ≡ suc i = omega arith in
    record {
      len = omega (arith, c.in_ok-push.ensures.len, h.len);
      each = subst (All (IsElement F)) (sym e) (All-push (IsElement F) c.loop-i.tail.items
          c.neg.result h.each c.neg.ensures.element);
      value = λ j l. ap (λ p. vector_of F p j) e ∙ coeff-push F.ring F.value c.loop-i.tail.items
          c.neg.result (λ j. F.neg (vector_of F v (suc j))) i h.len h.value
          (c.neg.ensures.value ∙ ap F.neg (sym (entry F v (i + 1) (omega (
            arith,
            c.loop-i-test.true,
            c.requires.nonempty,
          )))
          ∙ ap (vector_of F v) next)) j l;
    }

pub returns-clause-len : goal.returns-clause-len
returns-clause-len g c = omega (
  arith,
  c.loop-i.invariant.len,
  c.loop-i-test.false,
  c.loop-i.auto.i-end,
  c.requires.nonempty,
)

pub returns-clause-value : goal.returns-clause-value
returns-clause-value g c i l = c.loop-i.invariant.value i
    (omega (arith, c.loop-i-test.false, c.loop-i.auto.i-end, c.requires.nonempty, l))
