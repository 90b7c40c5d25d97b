-- Spaces compared by their bases.
use Rattle.std.proofs.Common.{◌≡◌, ℕ, ◌+◌, ◌<◌, ◌≤◌, ◌⊎◌, inl, inr, ◌↔◌, Bool, true, false, IsTrue}
use Rattle.std.proofs.Common.{List, [], length, map, get_or, sym, ◌∙◌, ap, arith, subst}
use Rattle.std.proofs.lemmas.Bool.{cases_lt}
use Rattle.std.proofs.lemmas.List.{get_or-map, length-map}
use Rattle.ff_theory.specs.Ring.{IsCommRing, IsTested, IsField, Elements, IsElement}
use Rattle.ff_theory.proofs.Coeffs.{coeff-past}
use Rattle.ff_theory.specs.Span.{InSpan}
use Rattle.ff_theory.specs.Vector.{vector_of, vectors_of}
use Rattle.ff_lin.specs.Space.{SpaceParts, IsSpace, InSpace, SameSpace, pivot}
use Rattle.ff_lin.proofs.Entries.{entry}
use Rattle.ff_theory.proofs.Span.{span-one}
use Rattle.ff_lin.proofs.InsertRow.{span-family}
use Rattle.ff_lin.proofs.Unique.{count-most, same-vectors, one_space}

pub true-is-false : (b : Bool) → b ≡ false → ¬ (IsTrue b)
true-is-false b e h = cc

module _ (K : Elements ℕ) (tests : IsTested K.ring) where
  -- two rows, entry by entry
  pub row-next : (v w : List ℕ) (i : ℕ) → i < length v → length w ≡ length v
      → K.same (K.value (get_or v i 0)) (K.value (get_or w i 0)) ≡ true
      → ((j : ℕ) → j < i → vector_of K v j ≡ vector_of K w j) → (j : ℕ) → j < i + 1
      → vector_of K v j ≡ vector_of K w j
  row-next v w i l e h rest j q = go (cases_lt j i)
    where
      go : (j < i) ⊎ (i ≤ j) → vector_of K v j ≡ vector_of K w j
      go (inl r) = rest j r
      go (inr r) = let k : j ≡ i = omega arith in ap (vector_of K v) k ∙ entry K v i l
          ∙ tests.same_true (K.value (get_or v i 0)) (K.value (get_or w i 0)) h
          ∙ sym (ap (vector_of K w) k ∙ entry K w i (omega arith))

  pub row-differs : (v w : List ℕ) (i : ℕ) → i < length v → length w ≡ length v
      → K.same (K.value (get_or v i 0)) (K.value (get_or w i 0)) ≡ false
      → ¬ ((j : ℕ) → vector_of K v j ≡ vector_of K w j)
  row-differs v w i l e h all = true-is-false
      (K.same (K.value (get_or v i 0)) (K.value (get_or w i 0))) h
      (ap (λ t. K.same t (K.value (get_or w i 0)))
      (sym (entry K v i l) ∙ all i ∙ entry K w i (omega arith))
      ∙ tests.same_refl (K.value (get_or w i 0)))

  pub row-all : (v w : List ℕ) (n : ℕ) → length v ≤ n → length w ≡ length v
      → ((j : ℕ) → j < n → vector_of K v j ≡ vector_of K w j) → (j : ℕ) → vector_of K v j
      ≡ vector_of K w j
  row-all v w n l e h j = go (cases_lt j n)
    where
      go : (j < n) ⊎ (n ≤ j) → vector_of K v j ≡ vector_of K w j
      go (inl q) = h j q
      go (inr q) = coeff-past K.ring K.value v j (omega arith)
          ∙ sym (coeff-past K.ring K.value w j (omega arith))

  -- two lists of rows, row by row
  module _ {V : Type 0} (items : V → List ℕ) (a b : List V) (i : ℕ) (x y : V) (v w : List ℕ)
      (in_a : i < length a) (in_b : i < length b) (hx : x ≡ get_or a i x) (hy : y ≡ get_or b i y)
      (hv : v ≡ items x) (hw : w ≡ items y) where
    left : (j : ℕ) → vectors_of K (map items a) i j ≡ vector_of K v j
    left j = ap (λ t. vector_of K t j) (get_or-map items a i x [] in_a ∙ ap items (sym hx) ∙ sym hv)

    right : (j : ℕ) → vectors_of K (map items b) i j ≡ vector_of K w j
    right j = ap (λ t. vector_of K t j)
        (get_or-map items b i y [] in_b ∙ ap items (sym hy) ∙ sym hw)

    pub rows-next : ((j : ℕ) → vector_of K v j ≡ vector_of K w j)
        → ((l j : ℕ) → l < i → vectors_of K (map items a) l j ≡ vectors_of K (map items b) l j)
        → (l j : ℕ) → l < i + 1 → vectors_of K (map items a) l j ≡ vectors_of K (map items b) l j
    rows-next h rest l j q = go (cases_lt l i)
      where
        go : (l < i) ⊎ (i ≤ l) → vectors_of K (map items a) l j ≡ vectors_of K (map items b) l j
        go (inl r) = rest l j r
        go (inr r) = let e : l ≡ i = omega arith in ap (λ t. vectors_of K (map items a) t j) e
            ∙ left j ∙ h j ∙ sym (ap (λ t. vectors_of K (map items b) t j) e ∙ right j)

    pub rows-differ : ¬ ((j : ℕ) → vector_of K v j ≡ vector_of K w j)
        → ¬ ((l j : ℕ) → l < length a → vectors_of K (map items a) l j
        ≡ vectors_of K (map items b) l j)
    rows-differ h all = h (λ j. sym (left j) ∙ all i j in_a ∙ right j)

module _ (K : Elements ℕ) (laws : IsCommRing K.ring) (tests : IsTested K.ring)
    (field : IsField K.ring K.inverse) (s t : SpaceParts) (hs : IsSpace K s) (ht : IsSpace K t)
  where
    pub same_space : ((v : ℕ → K.carrier) → InSpace K s v ↔ InSpace K t v)
        → SameSpace K s.basis t.basis
    same_space h = record {
      into = λ i l. (h (vectors_of K s.basis i)).0
          (span-one K.ring laws (length s.basis) (vectors_of K s.basis) i l);
      back = λ i l. (h (vectors_of K t.basis i)).1
          (span-one K.ring laws (length t.basis) (vectors_of K t.basis) i l);
    }

    flipped : SameSpace K s.basis t.basis → SameSpace K t.basis s.basis
    flipped h = record { into = h.back; back = h.into }

    most : SameSpace K s.basis t.basis → length s.basis ≤ length t.basis
    most = count-most K.ring laws tests field.one_not_zero (length s.basis) (vectors_of K s.basis)
        (pivot s) hs.echelon (length t.basis) (vectors_of K t.basis) (pivot t) ht.echelon

    least : SameSpace K s.basis t.basis → length t.basis ≤ length s.basis
    least h = count-most K.ring laws tests field.one_not_zero (length t.basis)
        (vectors_of K t.basis)
        (pivot t) ht.echelon (length s.basis) (vectors_of K s.basis) (pivot s) hs.echelon
        (flipped h)

    pub same_count : ((v : ℕ → K.carrier) → InSpace K s v ↔ InSpace K t v) → length s.basis
        ≡ length t.basis
    same_count h = let k : SameSpace K s.basis t.basis = same_space h in omega
        (arith, most k, least k)

    -- spaces with the same vectors have the same basis vectors, and the other way round
    pub same-basis : ((v : ℕ → K.carrier) → InSpace K s v ↔ InSpace K t v) → (i j : ℕ)
        → i < length s.basis → vectors_of K s.basis i j ≡ vectors_of K t.basis i j
    same-basis h i j l = let k : SameSpace K s.basis t.basis = same_space h in
        same-vectors K.ring laws tests field.one_not_zero (length s.basis) (vectors_of K s.basis)
        (pivot s) hs.echelon (length t.basis) (vectors_of K t.basis) (pivot t) ht.echelon k
        (least k) i l j

    pub basis-same : length s.basis ≡ length t.basis
        → ((i j : ℕ) → i < length s.basis → vectors_of K s.basis i j ≡ vectors_of K t.basis i j)
        → (v : ℕ → K.carrier) → InSpace K s v ↔ InSpace K t v
    basis-same e h v = (
      λ k. subst (λ n. InSpan K.ring n (vectors_of K t.basis) v) e
          (span-family K.ring laws (length s.basis) (vectors_of K s.basis) (vectors_of K t.basis) v
          (λ i j l. sym (h i j l)) k),
      λ k. span-family K.ring laws (length s.basis) (vectors_of K t.basis) (vectors_of K s.basis) v
          h
          (subst (λ n. InSpan K.ring n (vectors_of K t.basis) v) (sym e) k),
    )

    -- a test of the rows is a test of the spaces, and of their data
    module _ (one_value : (a b : ℕ) → IsElement K a → IsElement K b → K.value a ≡ K.value b → a ≡ b)
        (len : s.len ≡ t.len) {V : Type 0} (items : V → List ℕ) (a b : List V)
        (old_a old_b : List V)
        (r : Bool)
        (ha : a ≡ old_a) (hb : b ≡ old_b) (basis_a : map items old_a ≡ s.basis)
        (basis_b : map items old_b ≡ t.basis) (count : length old_a ≡ length old_b)
        (test : IsTrue r ↔ ((i j : ℕ) → i < length a → vectors_of K (map items a) i j
        ≡ vectors_of K (map items b) i j)) where
      is_a : map items a ≡ s.basis
      is_a = ap (map items) ha ∙ basis_a

      is_b : map items b ≡ t.basis
      is_b = ap (map items) hb ∙ basis_b

      length_a : length s.basis ≡ length a
      length_a = ap length (sym is_a) ∙ length-map a items

      many : length s.basis ≡ length t.basis
      many = omega (
        arith,
        length_a,
        ap length ha,
        count,
        ap length (sym hb),
        length-map b items,
        ap
            length is_b,
      )

      into : IsTrue r → (v : ℕ → K.carrier) → InSpace K s v ↔ InSpace K t v
      into h = basis-same many (λ i j l. ap (λ q. vectors_of K q i j) (sym is_a)
          ∙ test.0 h i j (omega
          (arith, l, length_a)) ∙ ap (λ q. vectors_of K q i j) is_b)

      back : ((v : ℕ → K.carrier) → InSpace K s v ↔ InSpace K t v) → IsTrue r
      back h = test.1 (λ i j l. ap (λ q. vectors_of K q i j) is_a
          ∙ same-basis h i j (omega (arith, l, length_a)) ∙ ap (λ q. vectors_of K q i j) (sym is_b))

      pub vectors_code : IsTrue r ↔ ((v : ℕ → K.carrier) → InSpace K s v ↔ InSpace K t v)
      vectors_code = (into, back)

      pub data_code : IsTrue r ↔ (s ≡ t)
      data_code = (
        (λ h. one_space K laws tests field.one_not_zero one_value s t hs ht len
            (same_space (into h))),
        λ e. back
            (λ v. (subst (λ u. InSpace K u v) e, subst (λ u. InSpace K u v) (sym e))),
      )
