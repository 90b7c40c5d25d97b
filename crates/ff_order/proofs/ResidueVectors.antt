-- Facts of one result, and lists of planes.
use Rattle.std.proofs.Common.{◌≡◌, ℕ, zero, suc, ◌+◌, ◌<◌, List, [], ◌∷◌, ◌++◌, length, map, get_or}
use Rattle.std.proofs.Common.{sym, ◌∙◌, subst, arith, Result, Ok, Err, IfOk, ◌≤◌, ◌⊎◌, inl, inr}
use Rattle.std.proofs.lemmas.Bool.{cases_lt}
use Rattle.ff_theory.specs.Ring.{Elements}
use Rattle.ff_theory.specs.Lawful.{Lawful}
use Rattle.ff_theory.specs.Poly.{coeff}
use Rattle.ff_theory.specs.Vector.{vector_of}
use Rattle.ff_theory.specs.Values.{poly_of}
use Rattle.ff_theory.proofs.Coeffs.{coeff-past}
use Rattle.ff_lattice.proofs.Remainders.{poly_at}

-- what holds of a value that is passed on, from three facts
pub ok_three : {T F : Type 0} (P Q S W : T → Type 0) (r : Result T F)
    → ((x : T) → P x → Q x → S x → W x) → IfOk r P → IfOk r Q → IfOk r S → IfOk r W
ok_three P Q S W (Ok x) f h k m = f x h k m
ok_three P Q S W (Err e) f h k m = h

-- a loop that pushes one value after another, of each of which something holds
pub pushed : {V : Type 0} (xs : List V) (y d : V) (P : ℕ → V → Type 0) (i : ℕ) → length xs ≡ i
    → ((j : ℕ) → j < i → P j (get_or xs j d)) → P i y → (j : ℕ) → j < i + 1
    → P j (get_or (xs ++ y ∷ []) j d)
pushed [] y d P i e h k zero l = subst (λ n. P n y) (sym e) k
pushed [] y d P i e h k (suc j) l = absurd (omega arith)
pushed (x ∷ xs) y d P i e h k zero l = h zero (omega arith)
pushed (x ∷ xs) y d P zero e h k (suc j) l = absurd (omega arith)
pushed (x ∷ xs) y d P (suc i) e h k (suc j) l = pushed xs y d (λ n. P (suc n)) i (omega arith)
    (λ m q. h (suc m) (omega arith)) k j (omega arith)

-- the same for what the values hold
pub pushed_items : {V W : Type 0} (items : V → W) (xs : List V) (y : V) (d : W) (P : ℕ → W → Type 0)
    (i : ℕ) → length xs ≡ i → ((j : ℕ) → j < i → P j (get_or (map items xs) j d)) → P i (items y)
    → (j : ℕ) → j < i + 1 → P j (get_or (map items (xs ++ y ∷ [])) j d)
pushed_items items [] y d P i e h k zero l = subst (λ n. P n (items y)) (sym e) k
pushed_items items [] y d P i e h k (suc j) l = absurd (omega arith)
pushed_items items (x ∷ xs) y d P i e h k zero l = h zero (omega arith)
pushed_items items (x ∷ xs) y d P zero e h k (suc j) l = absurd (omega arith)
pushed_items items (x ∷ xs) y d P (suc i) e h k (suc j) l = pushed_items items xs y d
    (λ n. P (suc n)) i (omega arith) (λ m q. h (suc m) (omega arith)) k j (omega arith)

-- a list with the coefficients of a polynomial
pub coefficients_whole : (F : Elements ℕ) (L : Lawful F) (v p : List ℕ) (n : ℕ) → length v ≡ n
    → length p ≤ n → ((j : ℕ) → j < n → vector_of F v j ≡ coeff F.ring (poly_of F p).coeffs j)
    → (j : ℕ) → vector_of F v j ≡ coeff F.ring (poly_of F p).coeffs j
coefficients_whole F L v p n e few h j = go (cases_lt j n)
  where
    go : (j < n) ⊎ (n ≤ j) → vector_of F v j ≡ coeff F.ring (poly_of F p).coeffs j
    go (inl l) = h j l
    go (inr l) = coeff-past F.ring F.value v j (omega (arith, e, l))
        ∙ sym (poly_at F.ring L.laws L.tests (map F.value p) j
        ∙ coeff-past F.ring F.value p j (omega (arith, few, l)))
