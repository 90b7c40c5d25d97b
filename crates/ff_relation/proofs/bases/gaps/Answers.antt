use Rattle.std.proofs.Common.{refl, arith}
use Rattle.ff_relation.proofs.BaseLemmas.{gaps-more}
use Rattle.ff_relation.proofs.bases.gaps.Goals as goal

pub loop-l-preserved : goal.loop-l-preserved
loop-l-preserved c = record {
  form = c.in_ok-push_gaps.ensures.form;
  all = gaps-more c.args.limits.now c.loop-l.gaps.items c.push_gaps.new.gaps.items c.loop-l.l _ refl
      c.in_ok-push_gaps.ensures.kept c.in_ok-push_gaps.ensures.new c.loop-l.invariant.all;
}

pub returns-clause-all : goal.returns-clause-all
returns-clause-all c = λ l q. c.loop-l.invariant.all l (omega (arith, q, c.loop-l-test.false))
