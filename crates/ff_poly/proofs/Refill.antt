use Rattle.std.proofs.Common.{◌≡◌, ℕ, zero, suc, List, [], ◌∷◌, ◌++◌, length, take, drop, refl, ap}
use Rattle.std.proofs.Common.{arith}
use Rattle.std.specs.List.{refill}

-- a list that was lent and came back with the same length
pub refill-whole : {X : Type 0} (xs ws : List X) → length ws ≡ length xs → refill (length xs) xs ws
    ≡ ws
refill-whole {X = X} xs ws e = go (length xs) ws (drop (length ws) xs) e
  where
    go : (n : ℕ) (ws zs : List X) → length ws ≡ n → take n (ws ++ zs) ≡ ws
    go zero [] zs e = refl
    go (suc n) [] zs e = absurd (omega arith)
    go zero (w ∷ ws) zs e = absurd (omega arith)
    go (suc n) (w ∷ ws) zs e = ap (λ t. w ∷ t) (go n ws zs (omega arith))
