use Rattle.std.proofs.Common.{sym, ◌∙◌, ap, arith, subst, All}
use Rattle.std.proofs.lemmas.List.Elements.{All-push}
use Rattle.ff_theory.specs.Ring.{IsElement}
use Rattle.ff_theory.proofs.Coeffs.{coeff-push}
use Rattle.ff_theory.specs.Vector.{vector_of}
use Rattle.ff_lin.proofs.Roots.{vector-zeros}
use Rattle.ff_data.proofs.combine.zeros.Goals as goal

pub loop-j-preserved : goal.loop-j-preserved
loop-j-preserved g c =
    let K = g.K.Ring.elements c.args.k.now in
    let e = c.in_ok-push.ensures.items in
    record {
      len = omega (arith, c.in_ok-push.ensures.len);
      each = subst (All (IsElement K)) (sym e)
          (All-push (IsElement K) c.loop-j.zeros.items c.zero.result c.loop-j.invariant.each
          c.zero.ensures.element);
      value = λ j l. ap (λ p. vector_of K p j) e
          ∙ coeff-push K.ring K.value c.loop-j.zeros.items c.zero.result (λ n. K.zero) c.loop-j._j
          c.loop-j.invariant.len c.loop-j.invariant.value c.zero.ensures.value j l;
    }

pub returns-clause-value : goal.returns-clause-value
returns-clause-value g c =
    vector-zeros (g.K.Ring.elements c.args.k.now) (g.met.K.Ring.laws c.args.k.now)
    c.loop-j.zeros.items c.loop-j._j c.loop-j.invariant.value
    (omega (arith, c.loop-j.invariant.len))
