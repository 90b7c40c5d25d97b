use Rattle.std.proofs.Common.{arith}
use Rattle.ff_relation.proofs.RelationLemmas.{multiples-more}
use Rattle.ff_relation.proofs.relations.denominator.Goals as goal

pub loop-i-preserved : goal.loop-i-preserved
loop-i-preserved g c =
    let F = g.K.Ring.elements c.args.k.now in
    let L = g.K.Ring.lawful c.args.k.now in
    record {
      form = c.in_ok-q-2.ensures.form;
      exact = λ w b. multiples-more F L c.args.s.now c.requires.table.weights b c.loop-i.q
          c.in_ok-q-2.q c.loop-i.i (c.in_ok-q-2.ensures.kept w b) (c.in_ok-q-2.ensures.exact w b)
          (c.loop-i.invariant.exact w b);
    }

pub returns-clause-exact : goal.returns-clause-exact
returns-clause-exact g c = λ w b i l. c.loop-i.invariant.exact w b i
    (omega (arith, l, c.loop-i-test.false))
