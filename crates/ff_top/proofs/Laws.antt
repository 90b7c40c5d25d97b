-- The laws of a prime field.
use Rattle.ff_theory.specs.Lawful.{Lawful}
use Rattle.ff_theory.proofs.Prime.{prime_ring_laws, prime_tests, prime_laws}
use Rattle.ff_prime.specs.declared.prime.Prime.{Prime}
use Rattle.ff_prime.specs.Number.{number_of}
use Rattle.ff_top.specs.Check.{field_of}

abbrev pub laws_of : (k : Prime) → Lawful (field_of k)
laws_of k = record {
  laws = prime_ring_laws (number_of k) k.known;
  tests = prime_tests (number_of k);
  finite = prime_laws (number_of k) k.known;
}
