-- The coefficients of a part, as a loop computes them.
use Rattle.std.proofs.Common.{◌≡◌, ℕ, zero, suc, ◌+◌, ◌*◌, ◌<◌, ◌≤◌, ◌⊎◌, inl, inr, List, [], ◌∷◌}
use Rattle.std.proofs.Common.{◌++◌, length, map, get_or, refl, sym, ◌∙◌, ap, subst, arith}
use Rattle.std.proofs.lemmas.List.{length-append, get_or_append_left}
use Rattle.std.proofs.Math.Nat.{mul-le-mul_right}
use Rattle.std.proofs.lemmas.Bool.{cases_lt}
use Rattle.ff_theory.specs.Ring.{IsCommRing, IsTested, Elements, power}
use Rattle.ff_theory.specs.Poly.{coeff}
use Rattle.ff_theory.specs.Values.{poly_of}
use Rattle.ff_theory.proofs.Coeffs.{coeff-past}
use Rattle.ff_theory.proofs.Frobenius.{power-zero}
use Rattle.ff_theory.proofs.Product.{coeff_of}
use Rattle.ff_theory.proofs.Values.{entry_at}
use Rattle.ff_poly.proofs.MonicForm.{pushed-below, pushed-at}

-- what holds of each entry of a list and of one entry more
pub family-push : {A : Type 0} (Q : ℕ → A → Type 0) (old : List A) (x d : A) (n : ℕ) → length old
    ≡ n → ((i : ℕ) → i < n → Q i (get_or old i d)) → Q n x
    → (i : ℕ) → i < n + 1 → Q i (get_or (old ++ x ∷ []) i d)
family-push {A = A} Q old x d n len h hx i l = go (cases_lt i n)
  where
    go : (i < n) ⊎ (n ≤ i) → Q i (get_or (old ++ x ∷ []) i d)
    go (inl m) = subst (Q i) (sym (get_or_append_left old (x ∷ []) d i (omega (arith, m, len))))
        (h i m)
    go (inr m) = let e : n ≡ i = omega (arith, m, l) in subst
        (λ i. Q i (get_or (old ++ x ∷ []) i d)) e (subst (Q n) (sym (last old n len)) hx)
      where
        last : (old : List A) (n : ℕ) → length old ≡ n → get_or (old ++ x ∷ []) n d ≡ x
        last [] zero e = refl
        last [] (suc n) e = absurd (omega arith)
        last (a ∷ old) zero e = absurd (omega arith)
        last (a ∷ old) (suc n) e = last old n (omega arith)

pub positive-multiple : (n q : ℕ) → 0 < q → n ≤ n * q
positive-multiple n zero h = absurd (omega (arith, h))
positive-multiple n (suc q) h = let e : n * suc q ≡ n + n * q = omega arith in omega (arith, e)

module _ {E : Type 0} (K : Elements E) (laws : IsCommRing K.ring) (tests : IsTested K.ring) (q : ℕ)
    (positive : 0 < q) where
  -- the q-th powers of coefficients, and past the last root nothing
  pub roots-end : (c roots r : List E) (i p : ℕ) → poly_of K r ≡ poly_of K roots
      → length c ≤ i + length roots * p
      → ((j : ℕ) → j < length roots → power K.ring (coeff K.ring (map K.value roots) j) q
      ≡ coeff K.ring (map K.value c) (i + j * p))
      → (j : ℕ) → power K.ring (coeff K.ring (map K.value r) j) q
      ≡ coeff K.ring (map K.value c) (i + j * p)
  roots-end c roots r i p e l h j = ap (λ t. power K.ring t q)
      (coeff_of K.ring laws tests (map K.value r) (map K.value roots) e j)
      ∙ go (cases_lt j (length roots))
    where
      go : (j < length roots) ⊎ (length roots ≤ j) → power K.ring
          (coeff K.ring (map K.value roots) j) q ≡ coeff K.ring (map K.value c) (i + j * p)
      go (inl m) = h j m
      go (inr m) = ap (λ t. power K.ring t q) (coeff-past K.ring K.value roots j m)
          ∙ power-zero K.ring laws q positive
          ∙ sym (coeff-past K.ring K.value c (i + j * p)
          (let w : length roots * p ≤ j * p = mul-le-mul_right p m in omega (arith, l, w)))

  pub roots-push : (c roots new : List E) (i p at : ℕ) (x d : E) → new ≡ roots ++ x ∷ [] → at
      ≡ i + length roots * p → at < length c → power K.ring (K.value x) q ≡ K.value (get_or c at d)
      → ((j : ℕ) → j < length roots → power K.ring (coeff K.ring (map K.value roots) j) q
      ≡ coeff K.ring (map K.value c) (i + j * p))
      → (j : ℕ) → j < length new → power K.ring (coeff K.ring (map K.value new) j) q
      ≡ coeff K.ring (map K.value c) (i + j * p)
  roots-push c roots new i p at x d e ha l hx h j m = ap
      (λ t. power K.ring (coeff K.ring (map K.value t) j) q) e ∙ go (cases_lt j (length roots))
    where
      go : (j < length roots) ⊎ (length roots ≤ j) → power K.ring
          (coeff K.ring (map K.value (roots ++ x ∷ [])) j) q
          ≡ coeff K.ring (map K.value c) (i + j * p)
      go (inl b) = ap (λ t. power K.ring t q) (pushed-below K.ring K.value roots x j b) ∙ h j b
      go (inr b) = let w : length (roots ++ x ∷ []) ≡ length roots + 1 = length-append roots
          (x ∷ []) in
          let n : j ≡ length roots = omega (arith, m, b, ap length e, w) in
          ap (λ t. power K.ring t q) (pushed-at K.ring K.value roots x j n) ∙ hx
          ∙ entry_at K c at d l
          ∙ ap (coeff K.ring (map K.value c)) (ha ∙ ap (λ n. i + n * p) (sym n))
