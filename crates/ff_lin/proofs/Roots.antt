-- Rows of zeros and of roots.
use Rattle.std.proofs.Common.{◌≡◌, ℕ, zero, suc, ◌+◌, ◌<◌, ◌≤◌, ◌⊎◌, inl, inr, List, [], ◌∷◌, ◌++◌}
use Rattle.std.proofs.Common.{length, map, get_or, set, refl, sym, ◌∙◌, ap, arith, subst}
use Rattle.std.proofs.lemmas.List.{get_or-map}
use Rattle.std.proofs.lemmas.Bool.{cases_lt}
use Rattle.ff_theory.specs.Ring.{IsCommRing, Elements, power}
use Rattle.ff_theory.proofs.Coeffs.{coeff-past}
use Rattle.ff_theory.specs.Vector.{vector_of, vectors_of, IsVector}
use Rattle.ff_lin.specs.Space.{frobenius, AreRoots}
use Rattle.ff_theory.proofs.Frobenius.{power-zero}
use Rattle.ff_theory.proofs.InPlace.{set-same, set-other}
use Rattle.ff_lin.proofs.Entries.{entry}

module _ (K : Elements ℕ) (laws : IsCommRing K.ring) where
  pub vector-zeros : (xs : List ℕ) (n : ℕ) → ((j : ℕ) → j < n → vector_of K xs j ≡ K.zero)
      → length xs ≤ n → (j : ℕ) → vector_of K xs j ≡ K.zero
  vector-zeros xs n h l j = go (cases_lt j n)
    where
      go : (j < n) ⊎ (n ≤ j) → vector_of K xs j ≡ K.zero
      go (inl q) = h j q
      go (inr q) = coeff-past K.ring K.value xs j (omega arith)

  pub roots-all : (xs v : List ℕ) (n : ℕ) → 0 < K.characteristic → length xs ≡ length v
      → length v ≤ n → ((j : ℕ) → j < n → frobenius K (vector_of K xs) j ≡ vector_of K v j)
      → (j : ℕ) → frobenius K (vector_of K xs) j ≡ vector_of K v j
  roots-all xs v n pos lx l h j = go (cases_lt j n)
    where
      go : (j < n) ⊎ (n ≤ j) → frobenius K (vector_of K xs) j ≡ vector_of K v j
      go (inl q) = h j q
      go (inr q) = ap (λ t. power K.ring t K.characteristic)
          (coeff-past K.ring K.value xs j (omega arith))
          ∙ power-zero K.ring laws K.characteristic pos
          ∙ sym (coeff-past K.ring K.value v j (omega arith))

  pub roots-below : (xs v : List ℕ) (i y : ℕ) → i < length xs
      → power K.ring (K.value y) K.characteristic ≡ K.value (get_or xs i 0) → vector_of K xs i
      ≡ vector_of K v i
      → ((j : ℕ) → j < i → frobenius K (vector_of K xs) j ≡ vector_of K v j) → (j : ℕ) → j < i + 1
      → frobenius K (vector_of K (set xs i y)) j ≡ vector_of K v j
  roots-below xs v i y l hy same h j q = go (cases_lt j i)
    where
      go : (j < i) ⊎ (i ≤ j) → frobenius K (vector_of K (set xs i y)) j ≡ vector_of K v j
      go (inl r) = ap (λ t. power K.ring t K.characteristic)
          (set-other K.ring K.value xs i j y (λ e. absurd (omega arith))) ∙ h j r
      go (inr r) = let e : j ≡ i = omega arith in
          ap (frobenius K (vector_of K (set xs i y))) e
          ∙ ap (λ t. power K.ring t K.characteristic) (set-same K.ring K.value xs i y l) ∙ hy
          ∙ sym (entry K xs i l) ∙ same ∙ ap (vector_of K v) (sym e)

  -- a row of roots more
  module _ {V : Type 0} (items : V → List ℕ) where
    push-old : (xs : List V) (y : V) (l : ℕ) → l < length xs
        → get_or (map items (xs ++ y ∷ [])) l [] ≡ get_or (map items xs) l []
    push-old [] y l h = absurd (omega arith)
    push-old (x ∷ xs) y zero h = refl
    push-old (x ∷ xs) y (suc l) h = push-old xs y l (omega arith)

    push-new : (xs : List V) (y : V) → get_or (map items (xs ++ y ∷ [])) (length xs) [] ≡ items y
    push-new [] y = refl
    push-new (x ∷ xs) y = push-new xs y

    pub roots-push : (rows roots : List V) (row new : V) (i : ℕ) → length roots ≡ i
        → i < length rows → row ≡ get_or rows i row
        → IsVector K (length (items row)) (items new)
        → ((j : ℕ) → frobenius K (vector_of K (items new)) j ≡ vector_of K (items row) j)
        → AreRoots K (map items rows) i (map items roots)
        → AreRoots K (map items rows) (i + 1) (map items (roots ++ new ∷ []))
    roots-push rows roots row new i e li hr vec power h = record {
      vectors = λ l q. vector l (cases_lt l i) q;
      powers = λ l j q. powers l j (cases_lt l i) q;
    }
      where
        row_is : (l : ℕ) → l ≡ i → get_or (map items rows) l [] ≡ items row
        row_is l k = ap (λ n. get_or (map items rows) n []) k ∙ get_or-map items rows i row [] li
            ∙ ap items (sym hr)

        new_is : (l : ℕ) → l ≡ i → get_or (map items (roots ++ new ∷ [])) l [] ≡ items new
        new_is l k = ap (λ n. get_or (map items (roots ++ new ∷ [])) n []) (k ∙ sym e)
            ∙ push-new roots new

        old_is : (l : ℕ) → l < i → get_or (map items (roots ++ new ∷ [])) l []
            ≡ get_or (map items roots) l []
        old_is l q = push-old roots new l (omega (arith, q, e))

        vector : (l : ℕ) → (l < i) ⊎ (i ≤ l) → l < i + 1
            → IsVector K (length (get_or (map items rows) l []))
            (get_or (map items (roots ++ new ∷ [])) l [])
        vector l (inl q) m = subst (IsVector K (length (get_or (map items rows) l [])))
            (sym (old_is l q)) (h.vectors l q)
        vector l (inr q) m = let k : l ≡ i = omega arith in
            subst (λ n. IsVector K n (get_or (map items (roots ++ new ∷ [])) l []))
            (ap length (sym (row_is l k)))
            (subst (IsVector K (length (items row))) (sym (new_is l k)) vec)

        powers : (l j : ℕ) → (l < i) ⊎ (i ≤ l) → l < i + 1
            → frobenius K (vectors_of K (map items (roots ++ new ∷ [])) l) j
            ≡ vectors_of K (map items rows) l j
        powers l j (inl q) m = ap (λ t. frobenius K (vector_of K t) j) (old_is l q) ∙ h.powers l j q
        powers l j (inr q) m = let k : l ≡ i = omega arith in
            ap (λ t. frobenius K (vector_of K t) j) (new_is l k) ∙ power j
            ∙ ap (λ t. vector_of K t j) (sym (row_is l k))
