use Rattle.std.proofs.Common.{length, sym, ◌∙◌, ap, subst, arith}
use Rattle.std.proofs.Common.{All}
use Rattle.std.proofs.lemmas.List.Elements.{All-push}
use Rattle.ff_theory.specs.Ring.{IsElement}
use Rattle.ff_theory.specs.Vector.{vector_of}
use Rattle.ff_theory.proofs.Coeffs.{coeff-map}
use Rattle.ff_relation.proofs.BaseLemmas.{numbers-count}
use Rattle.ff_relation.proofs.Monic.{pushed-last, pushed-below, entries-pushed}
use Rattle.ff_relation.proofs.annihilator.negatives_and_one.Goals as goal

pub loop-i-preserved : goal.loop-i-preserved
loop-i-preserved g c =
    let F = g.K.Ring.elements c.args.k.now in
    let L = g.K.Ring.lawful c.args.k.now in
    let old = c.loop-i.coeffs.items in
    let list = c.args.c.now in
    let i = c.loop-i.i in
    let x = c.neg.result in
    let e = c.in_ok-push.ensures.items in
    record {
      count = numbers-count old c.push.new.self.items x i e c.loop-i.invariant.count;
      each = subst (All (IsElement F)) (sym e)
          (All-push (IsElement F) old x c.loop-i.invariant.each c.neg.ensures.element);
      low = entries-pushed L (λ j. F.neg (vector_of F list j)) old c.push.new.self.items x i e
          c.loop-i.invariant.count c.loop-i.invariant.low (c.neg.ensures.value
          ∙ ap F.neg (sym (coeff-map F.ring F.value list i 0 c.loop-i-test.true)));
    }

pub returns-clause-one : goal.returns-clause-one
returns-clause-one g c =
    let F = g.K.Ring.elements c.args.k.now in
    let L = g.K.Ring.lawful c.args.k.now in
    let n = length c.args.c.now in
    ap (λ t. vector_of F t n) c.in_ok-push-2.ensures.items
    ∙ pushed-last L c.loop-i.coeffs.items c.one.result n
    (omega (arith, c.loop-i.invariant.count, c.loop-i-test.false, c.loop-i.auto.i-end))
    ∙ c.one.ensures.value

pub returns-clause-low : goal.returns-clause-low
returns-clause-low g c =
    let F = g.K.Ring.elements c.args.k.now in
    let L = g.K.Ring.lawful c.args.k.now in
    let old = c.loop-i.coeffs.items in
    let n = length c.args.c.now in
    pushed-below L (λ j. F.neg (vector_of F c.args.c.now j)) old c.push-2.new.self.items
    c.one.result n c.in_ok-push-2.ensures.items
    (omega (arith, c.loop-i.invariant.count, c.loop-i-test.false, c.loop-i.auto.i-end))
    (λ j q. c.loop-i.invariant.low j (omega (arith, q, c.loop-i-test.false)))
