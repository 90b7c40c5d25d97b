-- Leading terms of coordinates.
use Rattle.std.specs.Prelude.{◌≡◌, ℕ, ◌+◌, ◌*◌, ◌^◌, ◌<◌, ◌≤◌, List, [], length, get_or}
use Rattle.ff_data.specs.declared.system.System.{System}
use Rattle.ff_data.specs.Systems.{weight_at, term_weight}
use Rattle.ff_ring.specs.declared.weight.Term.{Term}

-- among the first n coordinates the one of the term is not 0, and its weight is the greatest one
pub record IsTopBelow (s : System) (c : List (List ℕ)) (n : ℕ) (t : Term) : Type 0 where
  pub below : t.class < n
  pub degree : length (get_or c t.class []) ≡ t.degree + 1
  pub weight : t.weight ≡ s.e * t.degree + weight_at s t.class
  pub small : t.weight < 2 ^ 97
  pub within : (l : ℕ) → l < n → 0 < length (get_or c l []) → term_weight s c l ≤ t.weight

-- the leading term
abbrev pub IsTop : System → List (List ℕ) → Term → Type 0
IsTop s c t = IsTopBelow s c (length c) t

-- the first n coordinates are 0
abbrev pub AreZeroBelow : List (List ℕ) → ℕ → Type 0
AreZeroBelow c n = (l : ℕ) → l < n → get_or c l [] ≡ []

abbrev pub AreZero : List (List ℕ) → Type 0
AreZero c = AreZeroBelow c (length c)
