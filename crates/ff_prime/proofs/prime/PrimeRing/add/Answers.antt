use Rattle.std.proofs.Common.{inr, arith}
use Rattle.ff_theory.proofs.Prime.{residue_sum}
use Rattle.ff_prime.proofs.prime.PrimeRing.add.Goals as goal

pub returns-else-sum-self-clause-value : goal.returns-else-sum-self-clause-value
returns-else-sum-self-clause-value c = residue_sum c.args.self.now.number c.args.a c.args.b _
    (inr (omega (arith, c.if-sum-self.false)))
