use Rattle.std.proofs.Common.{arith, get_or}
use Rattle.ff_describe.specs.Levels.{IsCount}
use Rattle.ff_describe.proofs.RowLemmas.{pushed-at}
use Rattle.ff_describe.proofs.levels.level_counts.Goals as goal

pub loop-l-preserved : goal.loop-l-preserved
loop-l-preserved c = record {
  len = omega (arith, c.in_ok-push.ensures.len, c.loop-l.invariant.len);
  each = pushed-at (λ i n. IsCount c.args.e (get_or c.args.weights.now i 0) c.args.bound n) 0
      c.loop-l.counts.items c.level_count.result c.push.new.self.items c.loop-l.l
      c.in_ok-push.ensures.items c.loop-l.invariant.len c.loop-l.invariant.each
      c.level_count.ensures;
}

pub returns : goal.returns
returns c = record {
  count = omega (arith, c.loop-l.invariant.len, c.loop-l-test.false, c.loop-l.auto.l-end);
  each = λ l h. c.loop-l.invariant.each l (omega (arith, h, c.loop-l-test.false));
}
