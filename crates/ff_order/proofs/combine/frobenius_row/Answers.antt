use Rattle.std.proofs.Common.{sym, ◌∙◌, ap, arith, subst, All}
use Rattle.std.proofs.lemmas.List.Elements.{All-push}
use Rattle.ff_theory.specs.Ring.{IsElement, power}
use Rattle.ff_theory.specs.Vector.{vector_of}
use Rattle.ff_theory.proofs.Coeffs.{coeff-push}
use Rattle.ff_lin.specs.Space.{frobenius}
use Rattle.ff_lin.proofs.Entries.{entry}
use Rattle.ff_order.proofs.Combinations.{frobenius_whole}
use Rattle.ff_order.proofs.combine.frobenius_row.Goals as goal

pub loop-j-preserved : goal.loop-j-preserved
loop-j-preserved g c =
    let F = g.K.Ring.elements c.args.k.now in
    let e = c.in_ok-push.ensures.items in
    let v = c.args.v.now in
    let j = c.loop-j.j in
    record {
      len = omega (arith, c.in_ok-push.ensures.len, c.loop-j.invariant.len);
      each = subst (All (IsElement F)) (sym e)
          (All-push (IsElement F) c.loop-j.powers.items c.frob.result c.loop-j.invariant.each
          c.frob.ensures.element);
      value = λ i l. ap (λ p. vector_of F p i) e
          ∙ coeff-push F.ring F.value c.loop-j.powers.items c.frob.result
          (frobenius F (vector_of F v)) j c.loop-j.invariant.len c.loop-j.invariant.value
          (c.frob.ensures.value ∙ ap (λ t. power F.ring t F.characteristic)
          (sym (entry F v j (omega arith)))) i l;
    }

pub returns-clause-value : goal.returns-clause-value
returns-clause-value g c =
    frobenius_whole (g.K.Ring.elements c.args.k.now) (g.K.Ring.lawful c.args.k.now) c.args.v.now
    c.loop-j.powers.items c.loop-j.j c.loop-j.invariant.len c.loop-j-test.false
    c.loop-j.invariant.value
