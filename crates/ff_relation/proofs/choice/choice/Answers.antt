use Rattle.std.proofs.Common.{length, ap, arith}
use Rattle.ff_data.specs.declared.system.System.{System}
use Rattle.ff_data.specs.Systems.{weight_at}
use Rattle.ff_relation.proofs.Coprime.{prime-more}
use Rattle.ff_relation.proofs.choice.choice.Goals as goal

pub loop-i-preserved : goal.loop-i-preserved
loop-i-preserved c =
    let s = c.args.s.now in
    record {
      below = omega (arith, c.better-best.ensures.below, c.requires.weights);
      prime = prime-more s.e (weight_at s) c.loop-i.best c.better-best.result c.loop-i.i
          c.loop-i.invariant.prime c.better-best.ensures.kept c.better-best.ensures.taken;
    }

pub returns-clause-prime : goal.returns-clause-prime
returns-clause-prime c = λ i l h. c.loop-i.invariant.prime i
    (omega (
      arith,
      l,
      c.loop-i-test.false,
      c.requires.weights,
      ap (λ (t : System). length t.weights) c.s.view_is,
    )) h
