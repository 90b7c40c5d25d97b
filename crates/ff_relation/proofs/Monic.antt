-- Monic polynomials.
use Rattle.std.proofs.Common.{◌≡◌, ℕ, zero, suc, ◌+◌, ◌-◌, ◌<◌, ◌≤◌, ◌⊎◌, inl, inr, List, [], ◌∷◌}
use Rattle.std.proofs.Common.{◌++◌, length, map}
use Rattle.std.proofs.Common.{refl, sym, ◌∙◌}
use Rattle.std.proofs.Common.{ap, ap₂, arith}
use Rattle.std.proofs.lemmas.Bool.{cases_lt}
use Rattle.ff_theory.specs.Ring.{Elements}
use Rattle.ff_theory.specs.Lawful.{Lawful, lawful_field}
use Rattle.ff_theory.specs.Poly.{coeff, Poly}
use Rattle.ff_theory.specs.Division.{size}
use Rattle.ff_theory.specs.Vector.{vector_of}
use Rattle.ff_theory.specs.Values.{poly_of, polys_over, IsPoly}
use Rattle.ff_theory.proofs.Coeffs.{coeff-past}
use Rattle.ff_theory.proofs.Product.{poly-coeff}
use Rattle.ff_theory.proofs.Series.{mul_top}
use Rattle.ff_theory.proofs.Division.{mul_at, zero_from, size-mul}
use Rattle.ff_poly.proofs.LongDivision.{poly-size}
use Rattle.ff_charts.proofs.Rows.{exact_size}
use Rattle.ff_relation.specs.Reduction.{IsMonic}
use Rattle.ff_relation.specs.InRing.{IsMonicLess}

module _ {F : Elements ℕ} (L : Lawful F) where
  -- a polynomial whose coefficient n is 1 and whose later ones are 0
  pub monic-at : (r : List ℕ) (p : Poly F.ring) (n : ℕ) → IsPoly F r → poly_of F r ≡ p
      → coeff F.ring p.coeffs n ≡ F.one → ((i : ℕ) → n < i → coeff F.ring p.coeffs i ≡ F.zero)
      → IsMonic F r
  monic-at r p n h e one past = record {
    poly = h;
    monic = let s : size F.ring p ≡ suc n = exact_size F.ring L.laws L.tests p n
        (λ z. L.finite.field.one_not_zero (sym one ∙ z)) past in
        let k : length r - 1 ≡ n = omega (
          arith,
          s,
          ap (size F.ring) e,
          poly-size F.ring L.laws L.tests F.value r h.canonical,
        ) in
        sym (poly-coeff F.ring L.laws L.tests (map F.value r) (length r - 1))
        ∙ ap (λ (t : Poly F.ring). coeff F.ring t.coeffs (length r - 1)) e
        ∙ ap (coeff F.ring p.coeffs) k ∙ one;
  }

  -- the polynomial of a list that ends with 1
  pub monic-list : (r c : List ℕ) (n : ℕ) → IsPoly F r → poly_of F r ≡ poly_of F c
      → length c ≡ n + 1 → vector_of F c n ≡ F.one → IsMonic F r
  monic-list r c n h e l one = monic-at r (poly_of F c) n h e
      (poly-coeff F.ring L.laws L.tests (map F.value c) n ∙ one)
      (λ i k. poly-coeff F.ring L.laws L.tests (map F.value c) i
      ∙ coeff-past F.ring F.value c i (omega (arith, k, l)))

  monic-some : (p : List ℕ) → IsMonic F p → 0 < length p
  monic-some p m = go (length p) refl
    where
      go : (n : ℕ) → length p ≡ n → 0 < length p
      go (suc n) e = omega (arith, e)
      go zero e = absurd (L.finite.field.one_not_zero (sym m.monic
          ∙ coeff-past F.ring F.value p (length p - 1) (omega (arith, e))))

  -- products of monic polynomials
  pub monic-mul : (p q r : List ℕ) → IsMonic F p → IsMonic F q → IsPoly F r
      → poly_of F r ≡ (polys_over F).mul (poly_of F p) (poly_of F q) → IsMonic F r
  monic-mul p q r mp mq h e = monic-at r ((polys_over F).mul (poly_of F p) (poly_of F q))
      ((length p - 1) + (length q - 1)) h e
      (mul_at F.ring L.laws L.tests (poly_of F p) (poly_of F q) ((length p - 1) + (length q - 1))
      ∙ mul_top F.ring L.laws (coeff F.ring (poly_of F p).coeffs)
      (coeff F.ring (poly_of F q).coeffs) (length p - 1) (length q - 1)
      ((length p - 1) + (length q - 1))
      (λ i l. zero_from F.ring L.laws L.tests (poly_of F p) i (omega (arith, l, sp)))
      (λ i l. zero_from F.ring L.laws L.tests (poly_of F q) i (omega (arith, l, sq))) refl
      ∙ ap₂ F.mul (poly-coeff F.ring L.laws L.tests (map F.value p) (length p - 1) ∙ mp.monic)
      (poly-coeff F.ring L.laws L.tests (map F.value q) (length q - 1) ∙ mq.monic)
      ∙ L.laws.mul_one F.one)
      (λ i l. zero_from F.ring L.laws L.tests
      ((polys_over F).mul (poly_of F p) (poly_of F q)) i (omega (arith, l, whole)))
    where
      sp : size F.ring (poly_of F p) ≡ suc (length p - 1)
      sp = poly-size F.ring L.laws L.tests F.value p mp.poly.canonical
          ∙ omega (arith, monic-some p mp)

      sq : size F.ring (poly_of F q) ≡ suc (length q - 1)
      sq = poly-size F.ring L.laws L.tests F.value q mq.poly.canonical
          ∙ omega (arith, monic-some q mq)

      whole : size F.ring ((polys_over F).mul (poly_of F p) (poly_of F q))
          ≡ suc ((length p - 1) + (length q - 1))
      whole = size-mul (lawful_field L) (poly_of F p) (poly_of F q)
          (length p - 1) (length q - 1) sp sq

  -- the entry that was pushed last
  pub pushed-last : (xs : List ℕ) (x n : ℕ) → length xs ≡ n
      → vector_of F (xs ++ x ∷ []) n ≡ F.value x
  pushed-last [] x zero e = refl
  pushed-last [] x (suc n) e = absurd (omega (arith, e))
  pushed-last (y ∷ xs) x zero e = absurd (omega (arith, e))
  pushed-last (y ∷ xs) x (suc n) e = pushed-last xs x n (omega (arith, e))

  -- the entries of a list with one more
  vector-before : (xs : List ℕ) (x j : ℕ) → j < length xs
      → vector_of F (xs ++ x ∷ []) j ≡ vector_of F xs j
  vector-before [] x j q = absurd (omega (arith, q))
  vector-before (y ∷ xs) x zero q = refl
  vector-before (y ∷ xs) x (suc j) q = vector-before xs x j (omega (arith, q))

  pub entries-pushed : (A : ℕ → F.carrier) (xs new : List ℕ) (x n : ℕ) → new ≡ xs ++ x ∷ []
      → length xs ≡ n → ((j : ℕ) → j < n → vector_of F xs j ≡ A j) → F.value x ≡ A n
      → (j : ℕ) → j < n + 1 → vector_of F new j ≡ A j
  entries-pushed A xs new x n e k h o j q = ap (λ t. vector_of F t j) e ∙ go (cases_lt j n)
    where
      go : (j < n) ⊎ (n ≤ j) → vector_of F (xs ++ x ∷ []) j ≡ A j
      go (inl l) = vector-before xs x j (omega (arith, l, k)) ∙ h j l
      go (inr l) = let i : j ≡ n = omega (arith, l, q) in
          pushed-last xs x j (k ∙ sym i) ∙ o ∙ ap A (sym i)

  pub pushed-below : (A : ℕ → F.carrier) (xs new : List ℕ) (x n : ℕ) → new ≡ xs ++ x ∷ []
      → length xs ≡ n → ((j : ℕ) → j < n → vector_of F xs j ≡ A j) → (j : ℕ) → j < n
      → vector_of F new j ≡ A j
  pushed-below A xs new x n e k h j q = ap (λ t. vector_of F t j) e
      ∙ vector-before xs x j (omega (arith, q, k)) ∙ h j q

  -- the polynomial of the negatives of a list and 1
  pub less-list : (c r p : List ℕ) → poly_of F p ≡ poly_of F r → length r ≡ length c + 1
      → vector_of F r (length c) ≡ F.one
      → ((i : ℕ) → i < length c → vector_of F r i ≡ F.neg (vector_of F c i)) → IsMonicLess F c p
  less-list c r p e l one low = record {
    low = λ i q. at i ∙ low i q;
    one = at (length c) ∙ one;
    past = λ i q. at i ∙ coeff-past F.ring F.value r i (omega (arith, q, l));
  }
    where
      at : (i : ℕ) → coeff F.ring (poly_of F p).coeffs i ≡ vector_of F r i
      at i = ap (λ (t : Poly F.ring). coeff F.ring t.coeffs i) e
          ∙ poly-coeff F.ring L.laws L.tests (map F.value r) i
