use Rattle.std.proofs.Common.{◌≡◌, ◌+◌, suc, sym, ◌∙◌, ap, ap₂, arith}
use Rattle.ff_theory.specs.Span.{product}
use Rattle.ff_theory.specs.Vector.{vector_of}
use Rattle.ff_lin.proofs.Entries.{entry}
use Rattle.ff_data.proofs.value.dot.Goals as goal

pub loop-i-preserved : goal.loop-i-preserved
loop-i-preserved g c =
    let F = g.K.Ring.elements c.args.k.now in
    let v = c.args.a.now in
    let w = c.args.b.now in
    let i = c.loop-i.i in
    let next : i + 1 ≡ suc i = omega arith in
    record {
      element = c.add-sum.ensures.element;
      value = c.add-sum.ensures.value
          ∙ ap₂ F.add c.loop-i.invariant.value (c.mul.ensures.value
          ∙ ap₂ F.mul (sym (entry F v i (omega (arith, c.loop-i-test.true))))
          (sym (entry F w i (omega (arith, c.loop-i-test.true, c.requires.b.len)))))
          ∙ ap (λ n. product F.ring n (vector_of F v) (vector_of F w)) (sym next);
    }
