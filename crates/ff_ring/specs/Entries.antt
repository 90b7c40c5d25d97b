-- Lists of polynomials, by their entries.
use Rattle.std.specs.Prelude.{◌≡◌, ℕ, ◌<◌, List, length}
use Rattle.ff_theory.specs.Ring.{Elements}
use Rattle.ff_theory.specs.Poly.{Poly, coeff}
use Rattle.ff_theory.specs.Values.{polys_over, polys_of, ArePolys}

-- entry l of a list of polynomials, 0 past its end
abbrev pub entry_at : (F : Elements ℕ) → List (List ℕ) → ℕ → Poly F.ring
entry_at F c l = coeff (polys_over F) (polys_of F c) l

-- n polynomials, v 0, .., v (n - 1)
pub record AreEntries (F : Elements ℕ) (n : ℕ) (v : ℕ → Poly F.ring) (c : List (List ℕ))
    : Type 0 where
  pub each : ArePolys F c
  pub count : length c ≡ n
  pub value : (l : ℕ) → l < n → entry_at F c l ≡ v l
