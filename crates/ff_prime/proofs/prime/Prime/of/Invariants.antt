use Rattle.std.proofs.Common.{◌≡◌, ℕ, ◌<◌, get_or}
use Rattle.ff_theory.specs.PrimeTable.{primes}
use Rattle.ff_prime.proofs.prime.Prime.of.Given as goal

abbrev pub invariant-loop-p : goal.invariant-loop-p
invariant-loop-p l = (i : ℕ) → i < l.p-index → ¬ (get_or primes i 0 ≡ l.n)
