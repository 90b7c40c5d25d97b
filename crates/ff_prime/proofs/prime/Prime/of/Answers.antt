use Rattle.std.proofs.Common.{refl, arith}
use Rattle.ff_theory.specs.PrimeTable.{primes}
use Rattle.ff_theory.proofs.Prime.{is_in-at, not_in}
use Rattle.ff_prime.proofs.prime.Prime.of.Goals as goal

pub invariant_of-result : goal.invariant_of-result
invariant_of-result c = record {
  known = is_in-at primes c.loop-p.p-index 0 c.loop-p-test.true;
  reciprocal_is = refl;
  quotient_is = refl;
}

pub returns-clause-some : goal.returns-clause-some
returns-clause-some c = (
  (λ e. cc),
  λ e. absurd
      (not_in primes c.args.n 0 (λ i h. c.loop-p.invariant i (omega arith)) e),
)
