-- The vectors so far.
use Rattle.ff_theory.specs.PrimeTable.{prime_elements}
use Rattle.ff_lin.specs.Space.{AreVectors}
use Rattle.ff_tests_base.proofs.lin.vectors.Given as goal

abbrev pub invariant-loop-row : goal.invariant-loop-row
invariant-loop-row l = AreVectors (prime_elements l.k.number) l.n l.vectors.items
