use Rattle.std.proofs.Common.{arith, ap, refl, ◌∙◌}
use Rattle.ff_theory.specs.Vector.{vector_of}
use Rattle.ff_theory.proofs.Coeffs.{coeff-push}
use Rattle.ff_relation.proofs.SplitLemmas.{padded-whole, vector-push}
use Rattle.ff_relation.proofs.reduce.padded.Goals as goal

pub loop-i-preserved : goal.loop-i-preserved
loop-i-preserved g c =
    let F = g.K.Ring.elements c.args.k.now in
    let xs = c.loop-i.padded.items in
    let i = c.loop-i.i in
    let x = c.entry_or_zero.result in
    record {
      vector = vector-push F xs c.push.new.self.items x i _ c.in_ok-push.ensures.items refl
          c.loop-i.invariant.vector c.entry_or_zero.ensures.element;
      value = λ j l. ap (λ t. vector_of F t j) c.in_ok-push.ensures.items
          ∙ coeff-push F.ring F.value xs x (vector_of F c.args.list.now) i
          c.loop-i.invariant.vector.len c.loop-i.invariant.value c.entry_or_zero.ensures.value j l;
    }

pub returns-clause-value : goal.returns-clause-value
returns-clause-value g c = λ small.
    let F = g.K.Ring.elements c.args.k.now in
    let L = g.K.Ring.lawful c.args.k.now in
    padded-whole F L c.args.list.now c.loop-i.padded.items c.args.n
    (omega (arith, c.loop-i.invariant.vector.len, c.loop-i-test.false, c.loop-i.auto.i-end)) small
    (λ j l. c.loop-i.invariant.value j (omega (arith, l, c.loop-i-test.false)))
