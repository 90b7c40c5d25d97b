use Rattle.std.proofs.Common.{◌∙◌, ap, ◌-◌, ◌%◌, sym}
use Rattle.ff_theory.specs.Residue.{residue}
use Rattle.ff_theory.proofs.Prime.{residue_neg_zero, residue_neg}
use Rattle.ff_prime.proofs.prime.PrimeRing.neg.Goals as goal

pub returns-then-a-eq0-clause-value : goal.returns-then-a-eq0-clause-value
returns-then-a-eq0-clause-value c = residue_neg_zero c.args.self.now.number
    ∙ ap (λ n. residue c.args.self.now.number (c.args.self.now.number - n % c.args.self.now.number))
    (sym c.if-a-eq0.true)

pub returns-else-a-eq0-clause-value : goal.returns-else-a-eq0-clause-value
returns-else-a-eq0-clause-value c = residue_neg c.args.self.now.number c.args.a c.requires
