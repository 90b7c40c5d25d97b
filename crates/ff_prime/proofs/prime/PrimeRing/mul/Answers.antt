use Rattle.ff_theory.proofs.Prime.{residue_product}
use Rattle.ff_prime.proofs.prime.PrimeRing.mul.Goals as goal

pub returns-clause-value : goal.returns-clause-value
returns-clause-value c = residue_product c.args.self.now.number c.args.a c.args.b _
    c.reduced.ensures
