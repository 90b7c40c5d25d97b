-- Solutions of linear equations, by the relations of the right side and the columns.
use Rattle.std.proofs.Common.{◌≡◌, ℕ, zero, suc, ◌<◌, ◌≤◌, inl, inr, List, [], ◌∷◌, length, map}
use Rattle.std.proofs.Common.{get_or, drop, refl, sym, ◌∙◌, ap, arith, subst, Option, None, Some}
use Rattle.std.proofs.lemmas.List.{length-drop, length-map}
use Rattle.std.proofs.lemmas.List.Elements.{All-drop}
use Rattle.std.specs.Option.{MatchOption}
use Rattle.ff_theory.specs.Ring.{IsCommRing, IsField, Elements, IsElement}
use Rattle.ff_theory.proofs.Sums.{sum-ext, sum-front, sum-zero}
use Rattle.ff_theory.proofs.Solver.{◌⊕◌, ◌⊗◌, neg, unit, nil, ring2, mul_zero}
use Rattle.ff_theory.specs.Span.{combination}
use Rattle.ff_theory.specs.Vector.{vector_of, vectors_of, IsVector, combination_of}
use Rattle.ff_lin.specs.Space.{SpaceParts, IsSpace, InSpace, HasExactly, IsRelation, IsSolution}
use Rattle.ff_lin.specs.Space.{pivot}
use Rattle.ff_lin.specs.Kernel.{augmented_of, BeginsLater, IsTailOfFirst}
use Rattle.ff_theory.proofs.Span.{span-one}
use Rattle.ff_lin.proofs.MeetSum.{cut, cut-ends, combination-cut}

module _ (K : Elements ℕ) (laws : IsCommRing K.ring) where
  pub vector-drop_one : (v : List ℕ) (j : ℕ) → vector_of K (drop 1 v) j ≡ vector_of K v (suc j)
  vector-drop_one [] j = refl
  vector-drop_one (x ∷ v) j = refl

  -- one, and then v
  abbrev one_then : (ℕ → K.carrier) → ℕ → K.carrier
  one_then v zero = K.one
  one_then v (suc i) = v i

  module _ (t : SpaceParts) (images cols : List (List ℕ)) (rhs : List ℕ) (space : IsSpace K t)
      (count : length images ≡ suc (length cols)) (len : t.len ≡ length images)
      (value : (i j : ℕ) → i < suc (length cols) → vectors_of K images i j
      ≡ augmented_of K cols rhs i j) (exact : HasExactly K t (IsRelation K images)) where
    augmented-sum : (v : ℕ → K.carrier) (j : ℕ) → combination_of K images v j
        ≡ K.add (K.mul (v 0) (K.neg (vector_of K rhs j))) (combination_of K cols (λ i. v (suc i)) j)
    augmented-sum v j = ap (λ n. combination K.ring n v (vectors_of K images) j) count
        ∙ sum-ext K.ring laws (suc (length cols)) (λ i. K.mul (v i) (vectors_of K images i j))
        (λ i. K.mul (v i) (augmented_of K cols rhs i j)) (λ i l. ap (K.mul (v i)) (value i j l))
        ∙ sum-front K.ring laws (length cols) (λ i. K.mul (v i) (augmented_of K cols rhs i j))

    pub tail-solution : (w : List ℕ) → IsTailOfFirst t w → IsSolution K cols rhs (vector_of K w)
    tail-solution w h j =
        sum-ext K.ring laws (length cols) (λ i. K.mul (vector_of K w i) (vectors_of K cols i j))
        (λ i. K.mul (b (suc i)) (vectors_of K cols i j))
        (λ i l. ap (λ t. K.mul t (vectors_of K cols i j))
        (ap (λ t. vector_of K t i) h.tail ∙ vector-drop_one (get_or t.basis 0 []) i))
        ∙ ring2 K.ring laws (λ s r. s) (λ s r. (unit ⊗ neg r ⊕ s) ⊕ r) refl
        (combination_of K cols (λ i. b (suc i)) j) (vector_of K rhs j)
        ∙ ap (λ t. K.add (K.add (K.mul t (K.neg (vector_of K rhs j)))
        (combination_of K cols (λ i. b (suc i)) j)) (vector_of K rhs j)) (sym one)
        ∙ ap (λ t. K.add t (vector_of K rhs j)) (sym (augmented-sum b j) ∙ relation j)
        ∙ ring2 K.ring laws (λ r s. nil ⊕ r) (λ r s. r) refl (vector_of K rhs j) K.zero
      where
        b : ℕ → K.carrier
        b = vectors_of K t.basis 0

        relation : IsRelation K images b
        relation = ((exact b).0 (span-one K.ring laws (length t.basis) (vectors_of K t.basis) 0
            h.some)).1

        one : b 0 ≡ K.one
        one = ap b (sym h.first) ∙ space.echelon.one_at 0 h.some

    pub tail-vector : (w : List ℕ) → IsTailOfFirst t w → IsVector K (length cols) w
    tail-vector w h = subst (IsVector K (length cols)) (sym h.tail)
        (record {
          each = All-drop (IsElement K) 1 (get_or t.basis 0 []) row.each;
          len = omega
              (arith, length-drop 1 (get_or t.basis 0 []), row.len, len, count);
        })
      where
        row : IsVector K t.len (get_or t.basis 0 [])
        row = space.rows 0 [] h.some

    pub no-solution : IsField K.ring K.inverse → BeginsLater t → (v : ℕ → K.carrier)
        → ¬ (IsSolution K cols rhs v)
    no-solution field later v h = absurd
        (field.one_not_zero (k.sum 0 ∙ sum-ext K.ring laws (length t.basis) (λ i. K.mul
        (k.coefficients i) (vectors_of K t.basis i 0)) (λ i. K.zero)
        (λ i l. ap (K.mul (k.coefficients i)) (begins later i l)
        ∙ mul_zero K.ring laws (k.coefficients i)) ∙ sum-zero K.ring laws (length t.basis)))
      where
        u : ℕ → K.carrier
        u = one_then (cut K.ring laws (length cols) v)

        ends : (i : ℕ) → t.len ≤ i → u i ≡ K.zero
        ends zero l = absurd (omega (arith, l, len, count))
        ends (suc i) l = cut-ends K.ring laws (length cols) v i (omega (arith, l, len, count))

        relation : IsRelation K images u
        relation j = augmented-sum u j
            ∙ ap (K.add (K.mul K.one (K.neg (vector_of K rhs j))))
            (combination-cut K.ring laws (length cols) v (vectors_of K cols) j ∙ h j)
            ∙ ring2 K.ring laws (λ r s. unit ⊗ neg r ⊕ r) (λ r s. nil) refl (vector_of K rhs j)
            K.zero

        k : InSpace K t u
        k = (exact u).1 (ends, relation)

        begins : BeginsLater t → (i : ℕ) → i < length t.basis → vectors_of K t.basis i 0 ≡ K.zero
        begins (inl e) i l = absurd (omega (arith, e, l))
        begins (inr p) zero l = space.echelon.begins 0 0 l p
        begins (inr p) (suc i) l = space.echelon.begins (suc i) 0 l
            (let q : pivot t 0 < pivot t (suc i) = space.echelon.rises 0 (suc i) (omega arith) l in
            omega (arith, p, q))

  -- the answer of the code
  pub solve_code : IsField K.ring K.inverse
      → {V : Type 0} (items : V → List ℕ) (t : SpaceParts) (images given cols : List V)
      (rhs : List ℕ) → IsSpace K t → given ≡ images → length images ≡ suc (length cols) → t.len
      ≡ length given
      → ((i j : ℕ) → i < suc (length cols) → vectors_of K (map items images) i j
      ≡ augmented_of K (map items cols) rhs i j)
      → HasExactly K t (IsRelation K (map items given))
      → (o : Option V) → MatchOption o (BeginsLater t) (λ v. IsTailOfFirst t (items v))
      → MatchOption o ((v : ℕ → K.carrier) → ¬ (IsSolution K (map items cols) rhs v))
      (λ v. IsSolution K (map items cols) rhs (vector_of K (items v)))
  solve_code field {V = V} items t images given cols rhs space hg count len value exact o = go o
    where
      many : length (map items images) ≡ suc (length (map items cols))
      many = length-map images items ∙ count ∙ ap suc (sym (length-map cols items))

      long : t.len ≡ length (map items images)
      long = len ∙ ap length hg ∙ sym (length-map images items)

      each : (i j : ℕ) → i < suc (length (map items cols)) → vectors_of K (map items images) i j
          ≡ augmented_of K (map items cols) rhs i j
      each i j l = value i j (omega (arith, l, length-map cols items))

      is : HasExactly K t (IsRelation K (map items images))
      is = subst (λ r. HasExactly K t (IsRelation K (map items r))) hg exact

      go : (o : Option V) → MatchOption o (BeginsLater t) (λ v. IsTailOfFirst t (items v))
          → MatchOption o ((v : ℕ → K.carrier) → ¬ (IsSolution K (map items cols) rhs v))
          (λ v. IsSolution K (map items cols) rhs (vector_of K (items v)))
      go None h = no-solution t (map items images) (map items cols) rhs space many long each is
          field h
      go (Some w) h = tail-solution t (map items images) (map items cols) rhs space many long each
          is (items w) h
