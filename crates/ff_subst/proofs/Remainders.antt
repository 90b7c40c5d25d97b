-- Division of rows by a polynomial in x.
use Rattle.std.proofs.Common.{◌≡◌, ℕ, ◌+◌, ◌<◌, ◌≤◌, ◌⊎◌, inl, inr, List, [], ◌∷◌, ◌++◌, length}
use Rattle.std.proofs.Common.{map, get_or, refl, sym, ◌∙◌, ap, subst, arith}
use Rattle.std.proofs.lemmas.Bool.{cases_lt}
use Rattle.std.proofs.lemmas.List.{get_or_past, get_or_append_left, get_or_push, get_or_default}
use Rattle.ff_theory.specs.Ring.{Elements}
use Rattle.ff_theory.specs.Lawful.{Domain, Field, Lawful, lawful_field}
use Rattle.ff_theory.specs.Poly.{coeff, Poly, poly, polynomials}
use Rattle.ff_theory.specs.Division.{IsDivision}
use Rattle.ff_theory.proofs.Solver.{◌⊕◌, ◌⊗◌, nil, ring2, ring3}
use Rattle.ff_theory.proofs.Poly.{trim-coeff}
use Rattle.ff_theory.proofs.Division.{one_division}
use Rattle.ff_theory.proofs.PolyMap.{polynomial_domain, nonzero_size, zero_size, not_same}
use Rattle.ff_theory.specs.Planes.{planes, row_of}
use Rattle.ff_theory.specs.Values.{poly_of, IsPoly, plane_of}
use Rattle.ff_theory.specs.Divides.{Divides}
use Rattle.ff_elem.proofs.PolyLemmas.{poly-nonzero}
use Rattle.ff_poly.proofs.RowLists.{row-value}
use Rattle.ff_subst.specs.Congruence.{IsCongruent}
use Rattle.ff_subst.proofs.Congruences.{congruent-equal, congruent-zero, divides-congruent}
use Rattle.ff_subst.proofs.Residues.{planes_laws, congruent-rows, rows-congruent}

module _ (K : Elements ℕ) (L : Lawful K) where
  abbrev F : Field
  F = lawful_field L

  abbrev D : Domain
  D = polynomial_domain (lawful_field L)

  pub entry : (M : List (List ℕ)) (j : ℕ) → coeff (polynomials K.ring) (plane_of K M).coeffs j
      ≡ poly_of K (get_or M j [])
  unfolding poly
  entry M j = trim-coeff D.ring D.laws D.tests (map (λ p. poly_of K p) M) j ∙ sym (row-value K M j)

  pub zero-length : (p : List ℕ) → IsPoly K p → poly_of K p ≡ (polynomials K.ring).zero → length p
      ≡ 0
  zero-length [] h e = refl
  zero-length (c ∷ p) h e = absurd
      (not_same D.ring D.tests (poly_of K (c ∷ p)) D.zero (poly-nonzero K L (c ∷ p) h (omega arith))
      e)

  pub division-congruent : (a m q r : Poly K.ring) → IsDivision K.ring a m q r
      → IsCongruent (polynomials K.ring) m a r
  division-congruent a m q r h = record {
    quotient = q;
    sum = h.sum ∙ ring3 D.ring D.laws (λ q m r. q ⊗ m ⊕ r) (λ q m r. r ⊕ m ⊗ q)
        refl q m r;
  }

  -- the only division
  pub exact-division : (m : List ℕ) (a q r s : Poly K.ring) → IsPoly K m → 0 < length m → a
      ≡ (polynomials K.ring).mul s (poly_of K m) → IsDivision K.ring a (poly_of K m) q r → (q ≡ s)
      × (r ≡ (polynomials K.ring).zero)
  exact-division m a q r s hm pos e h =
      let some = nonzero_size F (poly_of K m) (poly-nonzero K L m hm pos) in
      one_division (lawful_field L) (poly_of K m) some.0 some.1 a q r
      s D.zero h (record {
        sum = e ∙ ring2 D.ring D.laws (λ s m. s ⊗ m) (λ s m. s ⊗ m ⊕ nil)
            refl s (poly_of K m);
        smaller = omega (arith, zero_size F, some.1);
      })

  -- all rows
  pub list-congruent : (m : Poly K.ring) (M N : List (List ℕ)) (i : ℕ) → length M ≤ i → length N ≤ i
      → ((j : ℕ) → j < i → IsCongruent (polynomials K.ring) m (poly_of K (get_or M j []))
      (poly_of K (get_or N j [])))
      → IsCongruent (polynomials (polynomials K.ring)) (row_of K.ring m) (plane_of K M)
      (plane_of K N)
  list-congruent m M N i lm ln h = congruent-rows F m (plane_of K M) (plane_of K N)
      (λ j. subst (λ a. IsCongruent D.ring m a (coeff D.ring (plane_of K N).coeffs j))
      (sym (entry M j)) (subst (IsCongruent D.ring m (poly_of K (get_or M j []))) (sym (entry N j))
      (at j (cases_lt j i))))
    where
      at : (j : ℕ) → (j < i) ⊎ (i ≤ j)
          → IsCongruent D.ring m (poly_of K (get_or M j [])) (poly_of K (get_or N j []))
      at j (inl l) = h j l
      at j (inr l) = congruent-equal D.ring D.laws m _ _
          (ap (poly_of K) (get_or_past M j [] (omega arith)
          ∙ sym (get_or_past N j [] (omega arith))))

  pub row-divided : (m : Poly K.ring) (M : List (List ℕ)) (j : ℕ)
      → Divides (polynomials (polynomials K.ring)) (row_of K.ring m) (plane_of K M)
      → Divides (polynomials K.ring) m (poly_of K (get_or M j []))
  unfolding poly
  row-divided m M j h = congruent-zero D.ring D.laws m (poly_of K (get_or M j []))
      (subst (λ a. IsCongruent D.ring m a D.zero) (entry M j)
      (rows-congruent F m (plane_of K M) (planes F).zero
      (divides-congruent (planes F) (planes_laws F) (row_of K.ring m) (plane_of K M) h) j))

  -- a row that is not divided
  pub rest-zero : (m : List ℕ) (M : List (List ℕ)) (i : ℕ) (row rest : List ℕ) (q : Poly K.ring)
      → IsPoly K m → 0 < length m → i < length M → row ≡ get_or M i row → IsPoly K rest
      → IsDivision K.ring (poly_of K row) (poly_of K m) q (poly_of K rest)
      → Divides (polynomials (polynomials K.ring)) (row_of K.ring (poly_of K m)) (plane_of K M)
      → length rest ≡ 0
  rest-zero m M i row rest q hm pos inside is hr division h =
      let d : Divides (polynomials K.ring) (poly_of K m) (poly_of K (get_or M i [])) = row-divided
      (poly_of K m) M i h in
      zero-length rest hr (exact-division m (poly_of K row) q (poly_of K rest) d.0 hm pos
      (ap (poly_of K) (is ∙ get_or_default M i row [] inside) ∙ d.1) division).1

  -- what was pushed
  pub pushed : {A : Type 0} (P : ℕ → A → Type 0) (xs : List A) (x d : A) (i : ℕ) → i ≡ length xs
      → ((j : ℕ) → j < i → P j (get_or xs j d)) → P i x → (j : ℕ) → j < i + 1
      → P j (get_or (xs ++ x ∷ []) j d)
  pushed P xs x d i e h k j l = go (cases_lt j i)
    where
      go : (j < i) ⊎ (i ≤ j) → P j (get_or (xs ++ x ∷ []) j d)
      go (inl b) = subst (P j) (sym (get_or_append_left xs (x ∷ []) d j (omega arith))) (h j b)
      go (inr b) = let q : i ≡ j = omega arith in subst (λ n. P n (get_or (xs ++ x ∷ []) n d)) q
          (subst (P i) (sym (get_or_push xs x d i (sym e))) k)
