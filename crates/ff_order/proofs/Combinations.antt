-- Combinations of a basis, and of the images of a basis.
use Rattle.std.proofs.Common.{◌≡◌, ℕ, ◌<◌, ◌≤◌, ◌⊎◌, inl, inr, ◌↔◌, List, length, refl, sym}
use Rattle.std.proofs.Common.{◌∙◌, ap, arith, map, subst, Vec, Global}
use Rattle.std.proofs.lemmas.List.{length-map}
use Rattle.std.proofs.lemmas.Bool.{cases_lt}
use Rattle.ff_theory.specs.Ring.{Elements, power}
use Rattle.ff_theory.specs.Lawful.{Lawful}
use Rattle.ff_theory.specs.Span.{combination, InSpan, SameSpan}
use Rattle.ff_theory.specs.Vector.{vector_of, vectors_of, combination_of}
use Rattle.ff_theory.proofs.Coeffs.{coeff-past}
use Rattle.ff_theory.proofs.Frobenius.{power-zero}
use Rattle.ff_theory.proofs.Span.{span-inside, span-same}
use Rattle.ff_theory.proofs.Sums.{sum-ext}
use Rattle.ff_lin.specs.Space.{SpaceParts, InSpace, SpansFamily, HasExactly, combinations_of}
use Rattle.ff_lin.specs.Space.{frobenius}
use Rattle.ff_lin.proofs.Frobenius.{power-combination}
use Rattle.ff_lin.proofs.MeetSum.{cut, cut-ends, combination-cut, combination-combination}

module _ (F : Elements ℕ) (L : Lawful F) where
  -- a list that is long enough, with the powers of the entries
  pub frobenius_whole : (v w : List ℕ) (n : ℕ) → length w ≡ n → length v ≤ n
      → ((j : ℕ) → j < n → vector_of F w j ≡ frobenius F (vector_of F v) j) → (j : ℕ)
      → vector_of F w j ≡ frobenius F (vector_of F v) j
  frobenius_whole v w n e b h j = go (cases_lt j n)
    where
      go : (j < n) ⊎ (n ≤ j) → vector_of F w j ≡ frobenius F (vector_of F v) j
      go (inl q) = h j q
      go (inr q) = coeff-past F.ring F.value w j (omega (arith, e, q))
          ∙ sym (ap (λ t. power F.ring t F.characteristic)
          (coeff-past F.ring F.value v j (omega (arith, b, q)))
          ∙ power-zero F.ring L.laws F.characteristic L.finite.least.positive)

  -- the combination of the images is the image of the combination
  pub image-combination : (images basis rows : List (List ℕ))
      → ((i j : ℕ) → i < length basis → vectors_of F rows i j
      ≡ combination_of F images (frobenius F (vectors_of F basis i)) j)
      → (c : ℕ → F.carrier) (j : ℕ)
      → combination F.ring (length basis) (frobenius F c) (vectors_of F rows) j
      ≡ combination_of F images (frobenius F (combination_of F basis c)) j
  image-combination images basis rows h c j =
      sum-ext F.ring L.laws (length basis) _ _ (λ i q. ap (F.mul (frobenius F c i)) (h i j q))
      ∙ sym (combination-combination F.ring L.laws (length images) (length basis) (frobenius F c)
      (λ i. frobenius F (vectors_of F basis i)) (vectors_of F images) j)
      ∙ sum-ext F.ring L.laws (length images) _ _
      (λ s q. ap (λ t. F.mul t (vectors_of F images s j))
      (sym (power-combination F.field L.laws L.finite (length basis) c (vectors_of F basis) s)))

  pub images-exact : (given basis list : List (Vec ℕ Global)) (old target s : SpaceParts)
      → map (λ v. v.items) basis ≡ old.basis → length list ≡ length basis
      → ((i j : ℕ) → i < length basis → vectors_of F (map (λ v. v.items) list) i j
      ≡ combination_of F (map (λ v. v.items) given)
      (frobenius F (vectors_of F (map (λ v. v.items) basis) i)) j)
      → HasExactly F s
      (λ v. InSpace F target (combination_of F (map (λ v. v.items) list) (frobenius F v)))
      → HasExactly F s (λ v. InSpace F target
      (combination_of F (map (λ v. v.items) given) (frobenius F (combination_of F old.basis v))))
  images-exact given basis list old target s hb len h exact = subst (λ b. HasExactly F s (λ v.
      InSpace F target (combination_of F (map items given) (frobenius F (combination_of F b v)))))
      hb
      (λ v. (
        λ k. let e = (exact v).0 k in (
          e.0,
          span-same F.ring L.laws (length target.basis)
              (vectors_of F target.basis) (combination_of F (map items list) (frobenius F v))
              (combination_of F (map items given) (frobenius F
              (combination_of F (map items basis) v)))
              (λ j. sym (is v j)) e.1,
        ),
        λ k. (exact v).1 (
          k.0,
          span-same F.ring L.laws (length target.basis)
              (vectors_of F target.basis)
              (combination_of F (map items given) (frobenius F
              (combination_of F (map items basis) v)))
              (combination_of F (map items list) (frobenius F v)) (is v) k.1,
        ),
      ))
    where
      items : Vec ℕ Global → List ℕ
      items v = v.items

      count : length (map items list) ≡ length (map items basis)
      count = length-map list items ∙ len ∙ sym (length-map basis items)

      is : (v : ℕ → F.carrier) (j : ℕ) → combination_of F (map items list) (frobenius F v) j
          ≡ combination_of F (map items given) (frobenius F (combination_of F (map items basis) v))
          j
      is v j = ap (λ r. combination F.ring r (frobenius F v) (vectors_of F (map items list)) j)
          count
          ∙ image-combination (map items given) (map items basis) (map items list)
          (λ i l q. let b = length-map basis items in h i l (omega (arith, b, q))) v j
