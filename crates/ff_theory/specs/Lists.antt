-- Lists of the values of a function.
use Rattle.std.specs.Prelude.{ℕ, zero, suc, List, [], ◌∷◌}

-- the list of g 0, .., g (n - 1)
abbrev pub listed : {C : Type 0} → ℕ → (ℕ → C) → List C
listed zero g = []
listed (suc n) g = g zero ∷ listed n (λ i. g (suc i))
