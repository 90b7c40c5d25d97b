-- Elements of E(f) over a common denominator, for an equation f over a field whose laws are L.
use Rattle.std.proofs.Common.{◌≡◌, ℕ, zero, suc, ◌+◌, ◌<◌, ◌≤◌, ◌↔◌, Bool, true, false}
use Rattle.std.proofs.Common.{List, [], ◌∷◌, length, get_or, refl, sym, ◌∙◌, ap, ap₂, subst}
use Rattle.std.proofs.Common.{arith, take}
use Rattle.std.proofs.lemmas.List.Elements.{All-more}
use Rattle.ff_theory.specs.Ring.{RingOps, IsCommRing, Elements}
use Rattle.ff_theory.specs.Lawful.{Domain, Field, Lawful, lawful_field}
use Rattle.ff_theory.specs.Sum.{sum_below}
use Rattle.ff_theory.specs.Poly.{Poly, poly, polynomials}
use Rattle.ff_theory.specs.Division.{size, IsDivision}
use Rattle.ff_theory.specs.Divides.{Divides, IsGcd}
use Rattle.ff_theory.specs.Map.{IsMap}
use Rattle.ff_theory.specs.Planes.{planes, Plane, row_of}
use Rattle.ff_theory.specs.Values.{poly_of, IsPoly, polys_of, plane_of, IsPlane}
use Rattle.ff_theory.specs.Span.{combination}
use Rattle.ff_theory.specs.Vector.{vectors_of, combination_of}
use Rattle.ff_theory.specs.Algebra.{value_of, degree, constant}
use Rattle.ff_theory.proofs.Solver.{◌⊗◌, ring3, mul_zero, zero_mul}
use Rattle.ff_theory.proofs.Sums.{sum-ext}
use Rattle.ff_theory.proofs.Coeffs.{coeff-map}
use Rattle.ff_theory.proofs.Divides.{divides_right}
use Rattle.ff_theory.proofs.Poly.{polynomial_tests}
use Rattle.ff_theory.proofs.Evaluate.{const_map}
use Rattle.ff_theory.proofs.PolyMap.{polynomial_domain, not_same}
use Rattle.ff_theory.proofs.Element.{algebra_is_ring, value_map, element_clear, low_value}
use Rattle.ff_theory.proofs.Element.{cancel_row}
use Rattle.ff_charts.specs.Lattice.{HasShape, flat}
use Rattle.ff_charts.proofs.Flat.{flat_add, flat_scale, flat_zero, flat_one}
use Rattle.ff_charts.proofs.Lattice.{shape_zero}
use Rattle.ff_charts.proofs.Closure.{shape_plus, shape_scale}
use Rattle.ff_lin.specs.Space.{IsRelation}
use Rattle.ff_poly.proofs.CommonFactor.{exact_division}
use Rattle.ff_elem.specs.declared.elem.Elem.{Elem}
use Rattle.ff_elem.specs.Elem.{algebra_in, elem_of, poly_in, plane_in, IsElem}
use Rattle.ff_elem.proofs.PolyLemmas.{poly-nonzero, product-length}
use Rattle.ff_elem.proofs.Quotients.{element-nonzero, plane-degree}
use Rattle.ff_data.specs.Vectors.{IsCommonDenominator, AreNumerators, AreCoefficients}
use Rattle.ff_data.specs.Combinations.{constant_in, combination_in, elems_of, IsRelationOf}

module _ (K : Elements ℕ) (L : Lawful K) where
  abbrev F : Field
  F = lawful_field L

  abbrev D : Domain
  D = polynomial_domain (lawful_field L)

  -- a multiple of b is not 0 unless b is
  some-factor : (b q : List ℕ) (c : Poly K.ring) → IsPoly K b → 0 < length b
      → (polynomials K.ring).mul (poly_of K q) c ≡ poly_of K b → 0 < length q
  some-factor b q c hb lb e = go (length q) refl
    where
      go : (n : ℕ) → length q ≡ n → 0 < length q
      go zero z = let none : poly_of K q ≡ D.zero = empty q z in
          let t : D.same (poly_of K b) D.zero ≡ true = ap (λ t. D.same t D.zero)
          (sym e ∙ ap (λ t. D.mul t c) none ∙ zero_mul D.ring D.laws c)
          ∙ D.tests.same_refl D.zero in
          absurd (let n : D.same (poly_of K b) D.zero ≡ false = poly-nonzero K L b hb lb in
          let o : true ≡ false = sym t ∙ n in cc)
        where
          empty : (q : List ℕ) → length q ≡ 0 → poly_of K q ≡ D.zero
          empty [] h = refl
          empty (x ∷ q) h = absurd (omega (arith, h))
      go (suc n) z = omega (arith, z)

  -- the greatest common divisor of two polynomials that are not 0
  pub divisor-some : (a b g : List ℕ) → IsPoly K a → 0 < length a
      → IsGcd (polynomials K.ring) (poly_of K a) (poly_of K b) (poly_of K g) → 0 < length g
  divisor-some a b g ha la h = some-factor a g h.of_first.0 ha la
      (D.laws.mul_comm (poly_of K g) h.of_first.0 ∙ sym h.of_first.1)

  module _ (a b g q : List ℕ) (r : Poly K.ring)
      (gcd : IsGcd (polynomials K.ring) (poly_of K a) (poly_of K b) (poly_of K g))
      (division : IsDivision K.ring (poly_of K b) (poly_of K g) (poly_of K q) r) where
    exact : (polynomials K.ring).mul (poly_of K q) (poly_of K g) ≡ poly_of K b
    exact = exact_division K L (poly_of K b) (poly_of K g) (poly_of K q) r division gcd.of_second

    -- the quotient by it
    pub cofactor-some : IsPoly K b → 0 < length b → 0 < length q
    cofactor-some hb lb = some-factor b q (poly_of K g) hb lb exact

    pub cofactor-multiple : Divides (polynomials K.ring) (poly_of K b)
        ((polynomials K.ring).mul (poly_of K a) (poly_of K q))
    cofactor-multiple = (
      gcd.of_first.0,
      ap (λ t. D.mul t (poly_of K q)) gcd.of_first.1
          ∙ ring3 D.ring D.laws (λ s g q. (s ⊗ g) ⊗ q) (λ s g q. s ⊗ (q ⊗ g)) refl gcd.of_first.0
          (poly_of K g) (poly_of K q) ∙ ap (D.mul gcd.of_first.0) exact,
    )

  -- a common denominator of one element more
  pub denominator-none : (one : List ℕ) → IsPoly K one → length one ≡ 1
      → IsCommonDenominator K [] one
  denominator-none one h l = record {
    poly = h;
    nonzero = omega (arith, l);
    multiple = λ i d q. absurd (omega (arith, q));
  }

  pub denominator-step : (ws : List Elem) (i : ℕ) (w : Elem) (den factor next : List ℕ)
      → IsCommonDenominator K (take i ws) den → i < length ws → w ≡ get_or ws i w → IsPoly K factor
      → 0 < length factor → Divides (polynomials K.ring) (poly_of K w.den)
      ((polynomials K.ring).mul (poly_of K den) (poly_of K factor)) → IsPoly K next → poly_of K next
      ≡ (polynomials K.ring).mul (poly_of K den) (poly_of K factor)
      → IsCommonDenominator K (take (i + 1) ws) next
  denominator-step ws i w den factor next h l e hf lf divides hn value = record {
    poly = hn;
    nonzero = product-length K L next den factor h.poly hf h.nonzero lf value;
    multiple = All-more Divided ws i w l (λ j d q. subst (Divides P (poly_of K (get_or (take i ws) j
        d).den)) (sym value) (divides_right P D.laws (poly_of K (get_or (take i ws) j d).den)
        (poly_of K den) (poly_of K factor) (h.multiple j d q)))
        (subst Divided e (subst (Divides P (poly_of K w.den)) (sym value) divides));
  }
    where
      P : RingOps
      P = polynomials K.ring

      Divided : Elem → Type 0
      Divided v = Divides (polynomials K.ring) (poly_of K v.den) (poly_of K next)

  module _ (f : List (List ℕ)) where
    none : Elem
    none = record { den = []; num = [] }

    abbrev A : RingOps
    A = algebra_in L f

    abbrev G : Plane (lawful_field L)
    G = plane_of K f

    AL : IsCommRing (algebra_in L f)
    AL = algebra_is_ring (lawful_field L) (plane_of K f)

    V : IsMap (planes (lawful_field L)) (algebra_in L f) (value_of (lawful_field L) (plane_of K f))
    V = value_map (lawful_field L) (plane_of K f)

    rows : IsMap (polynomials K.ring) (planes (lawful_field L)) (row_of K.ring)
    rows = const_map D.ring D.laws D.tests

    -- den * w, for a multiple den of the denominator of w
    pub numerator-value : (den factor : List ℕ) (r : Poly K.ring) (w : Elem) (nums : List (List ℕ))
        → IsElem L f w → IsDivision K.ring (poly_of K den) (poly_of K w.den) (poly_of K factor) r
        → Divides (polynomials K.ring) (poly_of K w.den) (poly_of K den) → plane_of K nums
        ≡ (planes (lawful_field L)).mul (row_of K.ring (poly_of K factor)) (plane_of K w.num)
        → (algebra_in L f).mul (poly_in L f den) (elem_of L f w) ≡ plane_in L f nums
    numerator-value den factor r w nums hw division divides h =
        ap (λ t. A.mul (value_of F G (row_of K.ring t)) (elem_of L f w))
        (sym (exact_division K L (poly_of K den) (poly_of K w.den) (poly_of K factor) r division
        divides))
        ∙ ap (λ t. A.mul t (elem_of L f w)) (ap (value_of F G)
        (rows.on_mul (poly_of K factor) (poly_of K w.den)) ∙ V.on_mul _ _)
        ∙ AL.mul_assoc _ _ _
        ∙ ap (A.mul (value_of F G (row_of K.ring (poly_of K factor))))
        (element_clear F G (poly_of K w.den) (polys_of K w.num) (element-nonzero K L f w hw))
        ∙ sym (V.on_mul (row_of K.ring (poly_of K factor)) (plane_of K w.num))
        ∙ ap (value_of F G) (sym h)

    -- combinations of elements, and of their numerators
    module _ (d : Poly K.ring) (nonzero : (polynomials K.ring).same d (polynomials K.ring).zero
        ≡ false) (n l r : ℕ) (few : n ≤ degree (lawful_field L) (plane_of K f))
        (w : ℕ → (algebra_in L f).carrier) (N : ℕ → Plane (lawful_field L))
        (shape : (i : ℕ) → i < r → HasShape K.ring n l (N i))
        (clears : (i : ℕ) → i < r → (algebra_in L f).mul
        (value_of (lawful_field L) (plane_of K f) (row_of K.ring d)) (w i)
        ≡ value_of (lawful_field L) (plane_of K f) (N i)) (c : ℕ → K.carrier) where
      abbrev Q : RingOps
      Q = planes (lawful_field L)

      abbrev term : ℕ → Plane (lawful_field L)
      term i = (planes (lawful_field L)).mul
          (poly (polynomials K.ring) (poly K.ring (c i ∷ []) ∷ [])) (N i)

      sum-shape : (m : ℕ) → m ≤ r → HasShape K.ring n l (sum_below Q m term)
      sum-shape zero h = shape_zero F n l
      sum-shape (suc m) h = shape_plus F n l _ _ (sum-shape m (omega arith))
          (shape_scale F n l (c m) (N m) (shape m (omega arith)))

      sum-flat : (m : ℕ) (j : ℕ) → flat K.ring l (sum_below Q m term) j
          ≡ combination K.ring m c (λ i. flat K.ring l (N i)) j
      sum-flat zero j = flat_zero F l j
      sum-flat (suc m) j = flat_add F l _ _ j
          ∙ ap₂ K.add (sum-flat m j) (flat_scale F l (c m) (N m) j)

      sum-value : (m : ℕ) → m ≤ r
          → A.mul (value_of F G (row_of K.ring d)) (combination_in L f m c w)
          ≡ value_of F G (sum_below Q m term)
      unfolding constant
      sum-value zero h = mul_zero A AL _ ∙ sym V.on_zero
      sum-value (suc m) h = AL.mul_add _ _ _
          ∙ ap₂ A.add (sum-value m (omega arith))
          (ring3 A AL (λ d c w. d ⊗ (c ⊗ w)) (λ d c w. c ⊗ (d ⊗ w)) refl
          (value_of F G (row_of K.ring d)) (constant_in L f (c m)) (w m)
          ∙ ap (A.mul (constant_in L f (c m))) (clears m (omega arith)) ∙ sym (V.on_mul _ _))
          ∙ sym (V.on_add _ _)

      pub flat-to-zero : ((j : ℕ) → combination K.ring r c (λ i. flat K.ring l (N i)) j ≡ K.zero)
          → combination_in L f r c w ≡ (algebra_in L f).zero
      flat-to-zero h = cancel_row F G d nonzero _ _ (sum-value r (omega arith)
          ∙ ap (value_of F G) (flat_one F l n (sum_below Q r term) Q.zero
          (sum-shape r (omega arith)) (shape_zero F n l)
          (λ j. sum-flat r j ∙ h j ∙ sym (flat_zero F l j)))
          ∙ V.on_zero ∙ sym (mul_zero A AL _))

      pub zero-to-flat : combination_in L f r c w ≡ (algebra_in L f).zero → (j : ℕ)
          → combination K.ring r c (λ i. flat K.ring l (N i)) j ≡ K.zero
      zero-to-flat e j = sym (sum-flat r j) ∙ ap (λ T. flat K.ring l T j) vanishes ∙ flat_zero F l j
        where
          T : Plane (lawful_field L)
          T = sum_below Q r term

          vanishes : sum_below Q r term ≡ (planes (lawful_field L)).zero
          vanishes = go (Q.same T Q.zero) refl
            where
              go : (b : Bool) → Q.same T Q.zero ≡ b → sum_below Q r term ≡ Q.zero
              go true q = (polynomial_tests D.ring D.laws D.tests).same_true _ _ q
              go false q = absurd (low_value F G T
                  (let s : size (polynomials K.ring) T ≤ n = (sum-shape r (omega arith)).rows in
                  omega (arith, s, few))
                  (not_same Q (polynomial_tests D.ring D.laws D.tests) T Q.zero q)
                  (sym (sum-value r (omega arith)) ∙ ap (A.mul (value_of F G (row_of K.ring d))) e
                  ∙ mul_zero A AL _))

    -- combinations of the vectors of the numerators
    pub flattened : (ws : List Elem) (den : List ℕ) (planes : List (List (List ℕ)))
        (rows : List (List ℕ)) (n : ℕ) → IsPlane K f → length f ≡ suc n
        → IsCommonDenominator K ws den → AreNumerators L f den ws planes
        → AreCoefficients K n planes rows → (c : ℕ → K.carrier)
        → IsRelation K rows c ↔ IsRelationOf L f ws c
    flattened ws den planes rows n hf lf common nums coefficients c = (
      λ h. flat-to-zero d nonzero n l (length ws) few w N shape clears c
          (λ j. sym (whole j) ∙ h j),
      λ h j. whole j ∙ zero-to-flat d nonzero n l (length ws) few w N shape clears c h j,
    )
      where
        d : Poly K.ring
        d = poly_of K den

        nonzero : (polynomials K.ring).same d (polynomials K.ring).zero ≡ false
        nonzero = poly-nonzero K L den common.poly common.nonzero

        l : ℕ
        l = coefficients.l

        few : n ≤ degree (lawful_field L) (plane_of K f)
        few = omega (arith, plane-degree K L f n hf lf)

        w : ℕ → (algebra_in L f).carrier
        w = elems_of L f ws

        N : ℕ → Plane (lawful_field L)
        N i = plane_of K (get_or planes i [])

        shape : (i : ℕ) → i < length ws → HasShape K.ring n l (N i)
        shape i h = coefficients.shape i (omega (arith, h, nums.count))

        clears : (i : ℕ) → i < length ws → A.mul (value_of F G (row_of K.ring d)) (w i)
            ≡ value_of F G (N i)
        clears i h = ap (A.mul (value_of F G (row_of K.ring d)))
            (coeff-map A (elem_of L f) ws i none h) ∙ (nums.each i none h).value

        count : length rows ≡ length ws
        count = coefficients.count ∙ nums.count

        whole : (j : ℕ) → combination_of K rows c j
            ≡ combination K.ring (length ws) c (λ i. flat K.ring l (N i)) j
        whole j = ap (λ n. combination K.ring n c (vectors_of K rows) j) count
            ∙ sum-ext K.ring L.laws (length ws) _ _ (λ i h. ap (K.mul (c i))
            (coefficients.value i j (omega (arith, h, nums.count))))
