-- Coordinates are equal where all of their entries are.
use Rattle.std.proofs.Common.{◌≡◌, ℕ, zero, suc, ◌<◌, List, [], ◌∷◌, length, refl, ap₂, arith}
use native.Mathlib.Nat.{ℕ_set}
use mathlib.Core.HLevel.{is_prop→PathP}
use Rattle.ff_theory.specs.Ring.{RingOps}
use Rattle.ff_theory.specs.Poly.{coeff}
use Rattle.ff_theory.proofs.Listed.{listed-at}
use Rattle.ff_table.specs.Coords.{Coords, coords, at}

module _ (R : RingOps) (e : ℕ) where
  pub coords_path : (a b : Coords R e) → a.entries ≡ b.entries → a ≡ b
  coords_path a b h = λ i. record {
    entries = h i;
    count =
        is_prop→PathP (λ i. length (h i) ≡ e) (λ i. ℕ_set _ e) a.count b.count i;
  }

  list_ext : (n : ℕ) (p q : List R.carrier) → length p ≡ n → length q ≡ n
      → ((l : ℕ) → l < n → coeff R p l ≡ coeff R q l) → p ≡ q
  list_ext zero [] [] hp hq h = refl
  list_ext zero [] (y ∷ q) hp hq h = absurd (omega arith)
  list_ext zero (x ∷ p) q hp hq h = absurd (omega arith)
  list_ext (suc n) [] q hp hq h = absurd (omega arith)
  list_ext (suc n) (x ∷ p) [] hp hq h = absurd (omega arith)
  list_ext (suc n) (x ∷ p) (y ∷ q) hp hq h =
      ap₂ (λ s t. s ∷ t) (h zero (omega arith))
      (list_ext n p q (omega arith) (omega arith) (λ l k. h (suc l) (omega arith)))

  pub coords_ext : (a b : Coords R e) → ((l : ℕ) → l < e → at R e a l ≡ at R e b l) → a ≡ b
  coords_ext a b h = coords_path a b (list_ext e a.entries b.entries a.count b.count h)

  pub coords-at : (f : ℕ → R.carrier) (l : ℕ) → l < e → at R e (coords R e f) l ≡ f l
  unfolding coords
  coords-at f l h = listed-at R e f l h
