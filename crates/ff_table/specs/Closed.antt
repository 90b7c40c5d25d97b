-- Domains that are closed in their fields of fractions.
use Rattle.std.specs.Prelude.{◌≡◌, ℕ, false}
use Rattle.ff_theory.specs.Ring.{power}
use Rattle.ff_theory.specs.Lawful.{Domain}

-- a fraction a/q is an element where one d, not 0, is a denominator of all its powers
abbrev pub IsClosed : Domain → Type 0
IsClosed D = (a q d : D.carrier) → D.same q D.zero ≡ false → D.same d D.zero ≡ false
    → (c : ℕ → D.carrier)
    → ((j : ℕ) → D.mul d (power D.ring a j) ≡ D.mul (c j) (power D.ring q j))
    → (b : D.carrier) × (D.mul q b ≡ a)
