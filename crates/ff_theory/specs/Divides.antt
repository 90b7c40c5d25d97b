-- Divisors and greatest common divisors in a ring.
use Rattle.std.specs.Prelude.{◌≡◌, ℕ, ◌<◌, List}
use Rattle.ff_theory.specs.Ring.{RingOps}
use Rattle.ff_theory.specs.Poly.{coeff}

-- d divides a
abbrev pub Divides : (R : RingOps) → R.carrier → R.carrier → Type 0
Divides R d a = (q : R.carrier) × (a ≡ R.mul q d)

-- g divides a and b, and what divides both divides g
pub record IsGcd (R : RingOps) (a b g : R.carrier) : Type 0 where
  pub of_first : Divides R g a
  pub of_second : Divides R g b
  pub greatest : (d : R.carrier) → Divides R d a → Divides R d b → Divides R d g

-- g divides a and the first n entries of a list, and what divides all of these divides g
pub record IsGcdOfAll (R : RingOps) (a : R.carrier) (list : List R.carrier) (n : ℕ)
    (g : R.carrier) : Type 0 where
  pub of_first : Divides R g a
  pub of_each : (i : ℕ) → i < n → Divides R g (coeff R list i)
  pub greatest : (d : R.carrier) → Divides R d a
      → ((i : ℕ) → i < n → Divides R d (coeff R list i)) → Divides R d g

-- a combination of a and b is 1
pub record IsCoprime (R : RingOps) (a b : R.carrier) : Type 0 where
  pub u : R.carrier
  pub v : R.carrier
  pub one : R.add (R.mul u a) (R.mul v b) ≡ R.one
