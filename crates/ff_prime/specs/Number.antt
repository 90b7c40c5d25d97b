use Rattle.std.specs.Prelude.{ℕ}
use Rattle.ff_prime.specs.declared.prime.Prime.{Prime}

-- the prime number of a prime field
abbrev pub number_of : Prime → ℕ
number_of k = k.number
