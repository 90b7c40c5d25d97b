-- Numbers as differences of multiples of two others.
use Rattle.std.specs.Prelude.{◌≡◌, ℕ, ◌+◌, ◌*◌, ◌⊎◌}

-- g is a * x - b * y or b * y - a * x for some x and y
abbrev pub IsDifference : ℕ → ℕ → ℕ → Type 0
IsDifference a b g = ((x : ℕ) × (y : ℕ) × (a * x ≡ b * y + g))
    ⊎ ((x : ℕ) × (y : ℕ) × (b * y ≡ a * x + g))
