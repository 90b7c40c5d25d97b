-- Rows over a polynomial in x as an element in lowest terms.
use Rattle.std.proofs.Common.{◌≡◌, ℕ, zero, suc, pred, ◌+◌, ◌<◌, ◌≤◌, false, eqb, List, [], ◌∷◌}
use Rattle.std.proofs.Common.{length, map, refl, sym, ◌∙◌, ap, ap₂, subst, arith, All}
use Rattle.std.proofs.lemmas.Bool.{lt-ltb, eq-eqb, eqb-true}
use Rattle.std.proofs.lemmas.List.{length-map}
use Rattle.ff_theory.specs.Ring.{RingOps, Elements, IsElement, power}
use Rattle.ff_theory.specs.Lawful.{Lawful, lawful_field, Domain, Field}
use Rattle.ff_theory.specs.Poly.{Poly, poly, polynomials, coeff}
use Rattle.ff_theory.specs.Division.{size, leading_coeff}
use Rattle.ff_theory.proofs.Solver.{◌⊗◌, neg, nil, ring1, ring2, one_mul, zero_mul}
use Rattle.ff_theory.proofs.Poly.{trim-coeff}
use Rattle.ff_theory.proofs.Coeffs.{coeff-past}
use Rattle.ff_theory.proofs.Division.{size-mul, size_le}
use Rattle.ff_theory.proofs.Gcd.{no_size}
use Rattle.ff_theory.proofs.PolyMap.{polynomial_domain, one_size, zero_size}
use Rattle.ff_theory.proofs.Evaluate.{const_map}
use Rattle.ff_theory.specs.Planes.{planes, row_of}
use Rattle.ff_theory.proofs.Proper.{proper_is}
use Rattle.ff_theory.specs.Algebra.{degree, value_of, inverse_of, element, over_of, x_of, y_of}
use Rattle.ff_theory.specs.LowestTerms.{IsLowest}
use Rattle.ff_theory.proofs.Element.{algebra_is_ring, value_map, from_parts_exact, over_one}
use Rattle.ff_theory.proofs.Element.{over_clear, cancel_row, lowest_nonzero, add_exact, mul_exact}
use Rattle.ff_theory.proofs.Element.{lowest_terms_unique}
use Rattle.ff_theory.proofs.ElementPower.{power_exact}
use Rattle.ff_theory.proofs.ElementEuclid.{over-one}
use Rattle.ff_theory.specs.Values.{poly_of, IsPoly, plane_of, IsPlane}
use Rattle.ff_theory.specs.Monomial.{monomial}
use Rattle.ff_theory.proofs.Values.{one_list}
use Rattle.ff_poly.proofs.Negative.{neg_by_coeffs}
use Rattle.ff_elem.specs.Elem.{algebra_in, elem_of, plane_in, poly_in, over_in, x_in, y_in, IsElem}
use Rattle.ff_elem.specs.declared.elem.Elem.{Elem}
use Rattle.ff_elem.proofs.PolyLemmas.{poly-nonzero, nonzero-length}
use Rattle.ff_elem.proofs.Reduction.{plane-size, product-value}

module _ (F : Field) where
  abbrev D : Domain
  D = polynomial_domain F

  -- over the denominator 1
  pub one-lowest : (n : ℕ) (d : Poly F.ring) (M : List (Poly F.ring)) → length M ≡ n → d
      ≡ (polynomials F.ring).one → IsLowest F n d M
  unfolding poly
  one-lowest n d M len e = record {
    monic = ap (λ d. F.same (leading_coeff F.ring d) F.one) e
        ∙ ap (λ n. F.same (coeff F.ring D.one.coeffs (pred n)) F.one) (one_size F)
        ∙ ap (λ t. F.same t F.one) (trim-coeff F.ring F.laws F.tests (F.one ∷ []) 0)
        ∙ F.tests.same_refl F.one;
    count = eq-eqb (length M) n len;
    lowest = λ p h _. lt-ltb (size F.ring p) 2
        (go p h.0 (size F.ring p) (size F.ring h.0) refl refl (sym e ∙ h.1));
  }
    where
      go : (p q : Poly F.ring) (i j : ℕ) → size F.ring p ≡ i → size F.ring q ≡ j → D.one ≡ D.mul q p
          → size F.ring p < 2
      go p q zero j hp hq h = omega arith
      go p q (suc i) zero hp hq h = let z : D.one ≡ D.zero = h
          ∙ ap (λ t. D.mul t p) (no_size F q hq)
          ∙ zero_mul D.ring D.laws p in
          let s : size F.ring D.one ≡ 0 = ap (size F.ring) z
          ∙ zero_size F in absurd (omega (arith, s, one_size F))
      go p q (suc i) (suc j) hp hq h = let s : size F.ring D.one ≡ suc (j + i) = ap (size F.ring) h
          ∙ size-mul F q p j i hq hp in omega
          (arith, s, one_size F, hp)

module _ (K : Elements ℕ) (L : Lawful K) (f : List (List ℕ)) where
  abbrev F' : Field
  F' = lawful_field L

  abbrev R : Domain
  R = polynomial_domain (lawful_field L)

  abbrev A : RingOps
  A = algebra_in L f

  pub not-empty : (n : ℕ) → IsPlane K f → length f ≡ suc n
      → ¬ (size (polynomials K.ring) (plane_of K f) ≡ 0)
  not-empty n h l z = absurd (let k : length f ≡ 0 = sym (plane-size K L f h) ∙ z in omega (
    arith,
    k,
    l,
  ))

  pub plane-degree : (n : ℕ) → IsPlane K f → length f ≡ suc n
      → degree (lawful_field L) (plane_of K f) ≡ n
  plane-degree n h l = ap (λ p. pred (size R.ring p))
      (proper_is F' (plane_of K f) (not-empty n h l)) ∙ ap pred (plane-size K L f h ∙ l)

  -- a list of rows has at most as many as it has entries
  pub rows-size : (rows : List (List ℕ)) → size (polynomials K.ring) (plane_of K rows) ≤ length rows
  unfolding poly
  rows-size rows = size_le R.ring R.laws R.tests (plane_of K rows) (length rows)
      (λ i l. trim-coeff R.ring R.laws R.tests (map (λ p. poly_of K p) rows) i
      ∙ coeff-past R.ring (λ p. poly_of K p) rows i l)

  -- rows, fewer than those of f, with the same fractions in lowest terms
  pub fraction-value : (n : ℕ) (rows num : List (List ℕ)) (den : List ℕ) (e : Elem) → IsPlane K f
      → length f ≡ suc n → IsPoly K den → 0 < length den
      → length num ≡ n → plane_of K num ≡ plane_of K rows
      → IsLowest (lawful_field L) (length num) (poly_of K e.den) (map (λ p. poly_of K p) e.num)
      → ((i : ℕ) → i < length num → (polynomials K.ring).mul (coeff (polynomials K.ring) (map (λ p.
      poly_of K p) e.num) i) (poly_of K den)
      ≡ (polynomials K.ring).mul (coeff (polynomials K.ring) (map (λ p. poly_of K p) num) i)
      (poly_of K e.den))
      → IsLowest (lawful_field L) (degree (lawful_field L) (plane_of K f)) (poly_of K e.den)
      (map (λ p. poly_of K p) e.num) × (elem_of L f e ≡ over_in L f rows den)
  unfolding poly
  fraction-value n rows num den e hf lf hd ld len same low equal = (
    low',
    from_parts_exact F' (plane_of K f) (plane_of K rows) (poly_of K den) R.one (plane_of K num)
        (poly_of K e.den) (map (λ p. poly_of K p) e.num) (not-empty n hf lf)
        (poly-nonzero K L den hd ld) R.proper
        (ap (value_of F' (plane_of K f)) same
        ∙ sym (ap (λ t. (algebra_in L f).mul t (value_of F' (plane_of K f) (plane_of K rows)))
        one-row ∙ one_mul (algebra_in L f) (algebra_is_ring F' (plane_of K f)) _))
        (omega (arith, rows-size num, plane-size K L f hf, lf, len)) low'
        (λ i l. ap (R.mul (coeff R.ring (map (λ p. poly_of K p) e.num) i))
        (one_mul R.ring R.laws (poly_of K den))
        ∙ equal i (omega (arith, l, plane-degree n hf lf, len))
        ∙ ap (λ t. R.mul t (poly_of K e.den))
        (sym (trim-coeff R.ring R.laws R.tests (map (λ p. poly_of K p) num) i))),
  )
    where
      one-row : value_of F' (plane_of K f) (row_of F'.ring R.one) ≡ (algebra_in L f).one
      one-row = ap (value_of F' (plane_of K f)) (const_map R.ring R.laws R.tests).on_one
          ∙ (value_map F' (plane_of K f)).on_one

      low' : IsLowest (lawful_field L) (degree (lawful_field L) (plane_of K f)) (poly_of K e.den)
          (map (λ p. poly_of K p) e.num)
      low' = subst (λ n. IsLowest (lawful_field L) n (poly_of K e.den)
          (map (λ p. poly_of K p) e.num)) (len ∙ sym (plane-degree n hf lf)) low

  -- a multiple over a multiple
  pub over-multiple : (rows rest : List (List ℕ)) (den c whole : List ℕ) → IsPoly K den
      → 0 < length den → IsPoly K c → 0 < length c
      → plane_in L f rest ≡ (algebra_in L f).mul (poly_in L f c) (plane_in L f rows)
      → poly_of K whole ≡ (polynomials K.ring).mul (poly_of K c) (poly_of K den)
      → over_in L f rest whole ≡ over_in L f rows den
  over-multiple rows rest den c whole hd ld hc lc value product = over_one F' (plane_of K f)
      (plane_of K rows) (poly_of K den) (over_in L f rest whole) (poly-nonzero K L den hd ld)
      (cancel_row F' (plane_of K f) (poly_of K c) (poly-nonzero K L c hc lc) _ _
      (sym ((algebra_is_ring F' (plane_of K f)).mul_assoc (poly_in L f c) (poly_in L f den)
      (over_in L f rest whole))
      ∙ ap (λ t. (algebra_in L f).mul t (over_in L f rest whole))
      (sym (product-value K L f whole c den product))
      ∙ over_clear F' (plane_of K f) (plane_of K rest) (poly_of K whole)
      (ap (λ t. R.same t R.zero) product
      ∙ R.no_divisors (poly_of K c) (poly_of K den) (poly-nonzero K L c hc lc)
      (poly-nonzero K L den hd ld)) ∙ value))

  negative-at : (rows : List (List ℕ)) (i : ℕ)
      → coeff (polynomials K.ring) (map (λ p. (polynomials K.ring).neg (poly_of K p)) rows) i
      ≡ (polynomials K.ring).neg (coeff (polynomials K.ring) (map (λ p. poly_of K p) rows) i)
  negative-at [] i = ring1 R.ring R.laws (λ a. nil) (λ a. neg nil) refl R.zero
  negative-at (p ∷ rows) zero = refl
  negative-at (p ∷ rows) (suc i) = negative-at rows i

  -- the negatives of the numerators
  pub negative-value : (n : ℕ) (a e : Elem) → e.den ≡ a.den → map (λ p. poly_of K p) e.num
      ≡ map (λ p. (polynomials K.ring).neg (poly_of K p)) a.num
      → IsLowest (lawful_field L) n (poly_of K a.den) (map (λ p. poly_of K p) a.num)
      → IsLowest (lawful_field L) n (poly_of K e.den) (map (λ p. poly_of K p) e.num)
      × (elem_of L f e ≡ (algebra_in L f).neg (elem_of L f a))
  unfolding element
  negative-value n a e den num low = (
    record {
      monic = ap (λ d. K.same (leading_coeff F'.ring (poly_of K d)) K.one) den ∙ low.monic;
      count = ap (λ M. eqb (length M) n) num
          ∙ ap (λ m. eqb m n) (length-map a.num (λ p. R.neg (poly_of K p))
          ∙ sym (length-map a.num (λ p. poly_of K p))) ∙ low.count;
      lowest = λ d h hs. low.lowest d (h.0, ap (poly_of K) (sym den) ∙ h.1)
          (λ i l. (
            R.neg (hs i l).0,
            back i ∙ ap R.neg (hs i l).1
                ∙ ring2 R.ring R.laws (λ q d. neg (q ⊗ d)) (λ q d. neg q ⊗ d) refl (hs i l).0 d,
          ));
    },
    ap₂ (λ d N. A.mul (inverse_of F' (plane_of K f) (poly_of K d)) (value_of F' (plane_of K f) N))
        den plane ∙ ap (A.mul (inverse_of F' (plane_of K f) (poly_of K a.den)))
        ((value_map F' (plane_of K f)).on_neg (plane_of K a.num))
        ∙ ring2 A (algebra_is_ring F' (plane_of K f)) (λ i v. i ⊗ neg v) (λ i v. neg (i ⊗ v)) refl
        (inverse_of F' (plane_of K f) (poly_of K a.den))
        (value_of F' (plane_of K f) (plane_of K a.num)),
  )
    where
      at : (i : ℕ) → coeff R.ring (map (λ p. poly_of K p) e.num) i
          ≡ R.neg (coeff R.ring (map (λ p. poly_of K p) a.num) i)
      at i = ap (λ M. coeff R.ring M i) num ∙ negative-at a.num i

      back : (i : ℕ) → coeff R.ring (map (λ p. poly_of K p) a.num) i
          ≡ R.neg (coeff R.ring (map (λ p. poly_of K p) e.num) i)
      back i = ring1 R.ring R.laws (λ a. a) (λ a. neg (neg a)) refl
          (coeff R.ring (map (λ p. poly_of K p) a.num) i) ∙ ap R.neg (sym (at i))

      plane : plane_of K e.num ≡ (planes (lawful_field L)).neg (plane_of K a.num)
      plane = neg_by_coeffs R.ring R.laws R.tests (map (λ p. poly_of K p) a.num)
          (map (λ p. poly_of K p) e.num) at

  pub over-one-value : (rows : List (List ℕ)) (one : List ℕ) → poly_of K one
      ≡ (polynomials K.ring).one → over_in L f rows one ≡ plane_in L f rows
  over-one-value rows one h = ap (over_of F' (plane_of K f) (plane_of K rows)) h
      ∙ over-one F' (plane_of K f) (plane_of K rows)

  -- rows of 0, 1, x and y
  pub zero-rows : plane_in L f [] ≡ (algebra_in L f).zero
  zero-rows = (value_map F' (plane_of K f)).on_zero

  pub one-rows : (p : List ℕ) → poly_of K p ≡ (polynomials K.ring).one → plane_in L f (p ∷ [])
      ≡ (algebra_in L f).one
  one-rows p h = ap (λ t. value_of F' (plane_of K f) (row_of F'.ring t)) h
      ∙ ap (value_of F' (plane_of K f)) (const_map R.ring R.laws R.tests).on_one
      ∙ (value_map F' (plane_of K f)).on_one

  pub x-rows : (p : List ℕ) → poly_of K p ≡ poly K.ring (K.zero ∷ K.one ∷ [])
      → plane_in L f (p ∷ []) ≡ x_in L f
  unfolding x_of
  x-rows p h = ap (λ t. value_of F' (plane_of K f) (row_of F'.ring t)) h

  pub y-rows : (z p : List ℕ) → z ≡ [] → poly_of K p ≡ (polynomials K.ring).one
      → plane_in L f (z ∷ p ∷ []) ≡ y_in L f
  unfolding y_of
  y-rows z p hz hp = ap₂ (λ s t. value_of F' (plane_of K f) (poly R.ring (s ∷ t ∷ [])))
      (ap (poly_of K) hz) hp

  -- as many numerators as f has rows below the top
  pub element-count : (e : Elem) → IsPlane K f → 1 < length f → IsElem L f e → length e.num + 1
      ≡ length f
  element-count e h has low = let n = pred (length f) in let long : length f
      ≡ suc n = at (length f) (omega arith) in
      let c : length (map (λ p. poly_of K p) e.num)
      ≡ degree F' (plane_of K f) = eqb-true _ _ low.lowest.count in
      omega (arith, c, plane-degree n h long, length-map e.num (λ p. poly_of K p), long)
    where
      at : (m : ℕ) → 0 < m → m ≡ suc (pred m)
      at zero l = absurd (omega arith)
      at (suc m) l = refl

  pub element-nonzero : (e : Elem) → IsElem L f e
      → (polynomials K.ring).same (poly_of K e.den) (polynomials K.ring).zero ≡ false
  element-nonzero e h = lowest_nonzero F' (plane_of K f) (degree F' (plane_of K f))
      (poly_of K e.den) (map (λ p. poly_of K p) e.num) h.lowest

  -- the product of two denominators is not 0
  pub denominator-length : (d : List ℕ) (a b : Elem) → IsElem L f a → IsElem L f b → poly_of K d
      ≡ (polynomials K.ring).mul (poly_of K a.den) (poly_of K b.den) → 0 < length d
  denominator-length d a b ha hb h = nonzero-length K L d
      (ap (λ t. R.same t R.zero) h ∙ R.no_divisors (poly_of K a.den) (poly_of K b.den)
      (element-nonzero a ha) (element-nonzero b hb))

  -- sums and products
  pub sum-value : (den : List ℕ) (num : List (List ℕ)) (a b : Elem) → IsElem L f a → IsElem L f b
      → poly_of K den ≡ (polynomials K.ring).mul (poly_of K a.den) (poly_of K b.den)
      → plane_of K num ≡ (polynomials (polynomials K.ring)).add
      ((polynomials (polynomials K.ring)).mul
      (monomial (polynomials K.ring) (poly_of K b.den) 0) (plane_of K a.num))
      ((polynomials (polynomials K.ring)).mul
      (monomial (polynomials K.ring) (poly_of K a.den) 0) (plane_of K b.num))
      → over_in L f num den ≡ (algebra_in L f).add (elem_of L f a) (elem_of L f b)
  sum-value den num a b ha hb hd hn = ap₂ (over_of F' (plane_of K f)) hn hd
      ∙ sym (add_exact F' (plane_of K f) (poly_of K a.den) (poly_of K b.den)
      (map (λ p. poly_of K p) a.num) (map (λ p. poly_of K p) b.num) (element-nonzero a ha)
      (element-nonzero b hb))

  pub product-exact : (den : List ℕ) (num : List (List ℕ)) (a b : Elem) → IsElem L f a
      → IsElem L f b → poly_of K den ≡ (polynomials K.ring).mul (poly_of K a.den) (poly_of K b.den)
      → plane_of K num ≡ (polynomials (polynomials K.ring)).mul (plane_of K a.num)
      (plane_of K b.num)
      → over_in L f num den ≡ (algebra_in L f).mul (elem_of L f a) (elem_of L f b)
  product-exact den num a b ha hb hd hn = ap₂ (over_of F' (plane_of K f)) hn hd
      ∙ sym (mul_exact F' (plane_of K f) (poly_of K a.den) (poly_of K b.den)
      (map (λ p. poly_of K p) a.num) (map (λ p. poly_of K p) b.num) (element-nonzero a ha)
      (element-nonzero b hb))

  polys-one : ((a b : ℕ) → IsElement K a → IsElement K b → K.value a ≡ K.value b → a ≡ b)
      → (v w : List (List ℕ)) → All (λ p. IsPoly K p) v → All (λ p. IsPoly K p) w
      → map (λ p. poly_of K p) v ≡ map (λ p. poly_of K p) w → v ≡ w
  polys-one one [] [] hv hw e = refl
  polys-one one [] (q ∷ w) hv hw e = cc
  polys-one one (p ∷ v) [] hv hw e = cc
  polys-one one (p ∷ v) (q ∷ w) hv hw e =
      let h : poly_of K p ≡ poly_of K q = cc in
      let t : map (λ p. poly_of K p) v ≡ map (λ p. poly_of K p) w = cc in
      ap₂ (λ p v. p ∷ v) (one_list K one L.laws L.tests p q (hv zero p (omega arith))
      (hw zero q (omega arith)) h) (polys-one one v w (λ k d l. hv (suc k) d (omega arith)) (λ k
      d l. hw (suc k) d (omega arith)) t)

  -- each element of the algebra has one form
  pub element-one : ((a b : ℕ) → IsElement K a → IsElement K b → K.value a ≡ K.value b → a ≡ b)
      → (a b : Elem) → IsElem L f a → IsElem L f b → elem_of L f a ≡ elem_of L f b → a ≡ b
  element-one one a b ha hb e =
      let parts = lowest_terms_unique F' (plane_of K f) (poly_of K a.den) (poly_of K b.den)
      (map (λ p. poly_of K p) a.num) (map (λ p. poly_of K p) b.num) ha.lowest hb.lowest e in
      element-path (one_list K one L.laws L.tests a.den b.den ha.den hb.den parts.0)
      (polys-one one a.num b.num ha.num hb.num parts.1)
    where
      element-path : a.den ≡ b.den → a.num ≡ b.num → a ≡ b
      element-path d n = λ i. record { den = d i; num = n i }

  -- powers
  power-nonzero : (n : ℕ) (d : Poly K.ring) → (polynomials K.ring).same d (polynomials K.ring).zero
      ≡ false → (polynomials K.ring).same (power (polynomials K.ring) d n) (polynomials K.ring).zero
      ≡ false
  power-nonzero zero d h = R.proper
  power-nonzero (suc n) d h = R.no_divisors d (power (polynomials K.ring) d n) h
      (power-nonzero n d h)

  pub power-length : (n : ℕ) (den : List ℕ) (a : Elem) → IsElem L f a → poly_of K den
      ≡ power (polynomials K.ring) (poly_of K a.den) n → 0 < length den
  power-length n den a ha h = nonzero-length K L den
      (ap (λ t. R.same t R.zero) h ∙ power-nonzero n (poly_of K a.den) (element-nonzero a ha))

  pub power-value : (n : ℕ) (den : List ℕ) (num : List (List ℕ)) (a : Elem) → IsElem L f a
      → poly_of K den ≡ power (polynomials K.ring) (poly_of K a.den) n → plane_of K num
      ≡ power (polynomials (polynomials K.ring)) (plane_of K a.num) n
      → over_in L f num den ≡ power (algebra_in L f) (elem_of L f a) n
  power-value n den num a ha hd hn = ap₂ (over_of F' (plane_of K f)) hn hd
      ∙ sym (power_exact F' (plane_of K f) n (poly_of K a.den) (map (λ p. poly_of K p) a.num)
      (element-nonzero a ha) (power-nonzero n (poly_of K a.den) (element-nonzero a ha)))
