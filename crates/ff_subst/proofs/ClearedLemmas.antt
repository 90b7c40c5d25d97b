-- Elements over one denominator: lists of them, and sums of their multiples.
use Rattle.std.proofs.Common.{◌≡◌, ℕ, zero, suc, ◌+◌, ◌<◌, ◌≤◌, ◌⊎◌, inl, inr, List, [], length}
use Rattle.std.proofs.Common.{◌∷◌, ◌++◌, map, get_or, Bool, true, false, refl, sym, ◌∙◌, ap, ap₂}
use Rattle.std.proofs.Common.{subst, arith}
use Rattle.std.proofs.lemmas.Bool.{cases_lt, eqb-true}
use Rattle.std.proofs.lemmas.List.{get_or_append_left, get_or_push, length-map}
use Rattle.ff_theory.specs.Ring.{RingOps, IsCommRing, Elements}
use Rattle.ff_theory.specs.Lawful.{Domain, Field, Lawful, lawful_field}
use Rattle.ff_theory.specs.Sum.{sum_below}
use Rattle.ff_theory.specs.Poly.{coeff, Poly, poly, polynomials}
use Rattle.ff_theory.specs.LowestTerms.{IsLowest}
use Rattle.ff_theory.specs.Planes.{planes, Plane, row_of}
use Rattle.ff_theory.specs.Map.{IsMap}
use Rattle.ff_theory.specs.Algebra.{value_of, constant}
use Rattle.ff_theory.specs.Values.{poly_of, IsPoly, ArePolys, plane_of}
use Rattle.ff_theory.proofs.Solver.{◌⊕◌, ◌⊗◌, unit, ring1, ring4, mul_zero, zero_mul}
use Rattle.ff_theory.proofs.Sums.{sum-ext}
use Rattle.ff_theory.proofs.Poly.{trim-coeff}
use Rattle.ff_theory.proofs.Division.{const}
use Rattle.ff_theory.proofs.PolyMap.{polynomial_domain}
use Rattle.ff_theory.proofs.Element.{algebra_is_ring, value_map, element_clear, over_one}
use Rattle.ff_theory.proofs.Element.{lowest_nonzero}
use Rattle.ff_theory.proofs.Coeffs.{coeff-map, coeff-past}
use Rattle.ff_theory.proofs.Constants.{constant_map, poly_at-horner}
use Rattle.ff_theory.proofs.Horner.{horner, from_index}
use Rattle.ff_elem.specs.declared.elem.Elem.{Elem}
use Rattle.ff_elem.specs.Elem.{algebra_in, elem_of, poly_in, plane_in, over_in, IsElem}
use Rattle.ff_elem.proofs.Quotients.{element-nonzero}
use Rattle.ff_elem.proofs.PolyLemmas.{poly-nonzero, nonzero-length}
use Rattle.ff_elem.proofs.Reduction.{product-value}
use Rattle.ff_data.specs.Substitution.{poly_at}
use Rattle.ff_subst.specs.declared.cleared.Cleared.{Cleared}
use Rattle.ff_subst.specs.Columns.{plane_combination, constant_after}
use Rattle.ff_subst.specs.Cleared.{IsCommonMultiple, IsMultipleBy, IsAppendedBy, IsMixture}
use Rattle.ff_subst.specs.Cleared.{AreMultiplesBy, block_of, IsCleared, AreCleared}
use Rattle.ff_subst.specs.Cleared.{coefficient_in, linear_sum}
use Rattle.ff_subst.proofs.Residues.{planes_laws, row_map}
use Rattle.ff_subst.proofs.Columns.{poly-short}
use Rattle.ff_subst.proofs.BlockLemmas.{horner-all}

module _ (K : Elements ℕ) (L : Lawful K) where
  abbrev F : Field
  F = lawful_field L

  abbrev D : Domain
  D = polynomial_domain (lawful_field L)

  left-nonzero : (c a : Poly K.ring)
      → (polynomials K.ring).same ((polynomials K.ring).mul c a) (polynomials K.ring).zero ≡ false
      → (polynomials K.ring).same c (polynomials K.ring).zero ≡ false
  left-nonzero c a h = go (D.same c D.zero) refl
    where
      go : (t : Bool) → D.same c D.zero ≡ t → D.same c D.zero ≡ false
      go false e = e
      go true e = let z : c ≡ D.zero = D.tests.same_true c D.zero e in
          let q : true ≡ false = sym (D.tests.same_refl D.zero)
          ∙ ap (λ t. D.same t D.zero) (sym (ap (λ t. D.mul t a) z ∙ zero_mul D.ring D.laws a))
          ∙ h in
          cc

  pub lowest-count : (d : Poly K.ring) (list : List (List ℕ)) (n : ℕ)
      → IsLowest (lawful_field L) n d (map (λ p. poly_of K p) list) → length list ≡ n
  lowest-count d list n low = sym (length-map list (λ p. poly_of K p)) ∙ eqb-true _ _ low.count

  -- what the lowest terms of b / a tell
  pub common-multiple : (a b c d : List ℕ) (list : List (List ℕ)) → IsPoly K b → 0 < length b
      → IsPoly K d → ArePolys K list
      → IsLowest (lawful_field L) 1 (poly_of K d) (map (λ p. poly_of K p) list)
      → c ≡ get_or list 0 []
      → ((i : ℕ) → i < 1 → (polynomials K.ring).mul (coeff (polynomials K.ring) (map (λ p.
      poly_of K p) list) i) (poly_of K a)
      ≡ (polynomials K.ring).mul (coeff (polynomials K.ring) (map (λ p. poly_of K p) (b ∷ [])) i)
      (poly_of K d)) → IsCommonMultiple K a b c d
  common-multiple a b c d list hb lb hd hl low same h = record {
    left = subst (IsPoly K) (sym same) (hl 0 [] (omega (arith, one)));
    some_left = nonzero-length K L c (left-nonzero (poly_of K c) (poly_of K a)
        (ap (λ t. D.same t D.zero) equal
        ∙ D.no_divisors (poly_of K d) (poly_of K b) nd (poly-nonzero K L b hb lb)));
    right = hd;
    some_right = nonzero-length K L d nd;
    equal = equal;
  }
    where
      one : length list ≡ 1
      one = lowest-count (poly_of K d) list 1 low

      nd : D.same (poly_of K d) D.zero ≡ false
      nd = lowest_nonzero F (planes F).zero 1 (poly_of K d) (map (λ p. poly_of K p) list) low

      equal : D.mul (poly_of K c) (poly_of K a) ≡ D.mul (poly_of K d) (poly_of K b)
      equal = ap (λ t. D.mul t (poly_of K a)) (ap (poly_of K) same
          ∙ sym (coeff-map D.ring (λ p. poly_of K p) list 0 [] (omega (arith, one))))
          ∙ h 0 (omega arith) ∙ D.laws.mul_comm (poly_of K b) (poly_of K d)

  -- the product with 1
  pub multiple-one : (c : List ℕ) (M : List (List ℕ)) → poly_of K c ≡ (polynomials K.ring).one
      → IsMultipleBy K c M M
  multiple-one c M h = ring1 (planes F) (planes_laws F) (λ m. m) (λ m. unit ⊗ m) refl (plane_of K M)
      ∙ ap (λ t. (planes F).mul t (plane_of K M))
      (sym (ap (row_of F.ring) h ∙ (row_map F).on_one))

  -- a list with one entry more
  pub appended-by : (c d : List ℕ) (planes mid new : List (List (List ℕ))) (rows x : List (List ℕ))
      → AreMultiplesBy K c planes mid → length mid ≡ length planes → new ≡ mid ++ x ∷ []
      → IsMultipleBy K d rows x → IsAppendedBy K c planes d rows new
  appended-by c d planes mid new rows x h count e k = record {
    before = λ j l. subst (IsMultipleBy K c (get_or planes j []))
        (sym (ap (λ ys. get_or ys j []) e
        ∙ get_or_append_left mid (x ∷ []) [] j (omega (arith, count, l)))) (h j l);
    end = subst (IsMultipleBy K d rows) (sym (ap (λ ys. get_or ys (length planes) []) e
        ∙ get_or_push mid x [] (length planes) count)) k;
  }

  module _ (g : List (List ℕ)) where
    abbrev A : RingOps
    A = algebra_in L g

    AL : IsCommRing (algebra_in L g)
    AL = algebra_is_ring (lawful_field L) (plane_of K g)

    abbrev G : Plane (lawful_field L)
    G = plane_of K g

    V : IsMap (planes (lawful_field L)) (algebra_in L g) (value_of (lawful_field L) (plane_of K g))
    V = value_map (lawful_field L) (plane_of K g)

    -- a multiple of a polynomial as an element
    pub multiple-value : (c : List ℕ) (M N : List (List ℕ)) → IsMultipleBy K c M N → plane_in L g N
        ≡ (algebra_in L g).mul (poly_in L g c) (plane_in L g M)
    multiple-value c M N h = ap (value_of F G) h
        ∙ V.on_mul (row_of F.ring (poly_of K c)) (plane_of K M)

    -- one element more
    pub more-cleared : (u : ℕ → (algebra_in L g).carrier) (list new : Cleared) (c d : List ℕ)
        (e : Elem) → IsElem L g e → IsCommonMultiple K list.den e.den c d
        → poly_of K new.den ≡ (polynomials K.ring).mul (poly_of K c) (poly_of K list.den)
        → length new.planes ≡ length list.planes + 1
        → IsAppendedBy K c list.planes d e.num new.planes
        → AreCleared L g u list → elem_of L g e ≡ u (length list.planes) → AreCleared L g u new
    more-cleared u list new c d e he h hd count old k is j l = go j
        (cases_lt j (length list.planes))
        l
      where
        left : poly_in L g new.den ≡ A.mul (poly_in L g c) (poly_in L g list.den)
        left = product-value K L g new.den c list.den hd

        right : poly_in L g new.den ≡ A.mul (poly_in L g d) (poly_in L g e.den)
        right = product-value K L g new.den d e.den (hd ∙ h.equal)

        go : (j : ℕ) → (j < length list.planes) ⊎ (length list.planes ≤ j) → j < length new.planes
            → A.mul (poly_in L g new.den) (u j) ≡ plane_in L g (get_or new.planes j [])
        go j (inl b) l = ap (λ t. A.mul t (u j)) left
            ∙ AL.mul_assoc (poly_in L g c) (poly_in L g list.den) (u j)
            ∙ ap (A.mul (poly_in L g c)) (k j b)
            ∙ sym (multiple-value c (get_or list.planes j []) (get_or new.planes j [])
            (old.before j b))
        go j (inr b) l = let q : length list.planes ≡ j = omega (arith, l, count, b) in
            subst (λ i. A.mul (poly_in L g new.den) (u i) ≡ plane_in L g (get_or new.planes i [])) q
            (ap₂ A.mul right (sym is)
            ∙ AL.mul_assoc (poly_in L g d) (poly_in L g e.den) (elem_of L g e)
            ∙ ap (A.mul (poly_in L g d)) (element_clear F G (poly_of K e.den)
            (map (λ p. poly_of K p) e.num) (element-nonzero K L g e he))
            ∙ sym (multiple-value d e.num (get_or new.planes (length list.planes) []) old.end))

    -- a sum of multiples, times the denominator
    cleared-sum : (t : (algebra_in L g).carrier) (u : ℕ → (algebra_in L g).carrier) (n : ℕ)
        (c : ℕ → Poly K.ring) (M : ℕ → Plane (lawful_field L))
        → ((j : ℕ) → j < n → (algebra_in L g).mul t (u j)
        ≡ value_of (lawful_field L) (plane_of K g) (M j))
        → (algebra_in L g).mul t (sum_below (algebra_in L g) n (λ j. (algebra_in L g).mul
        (value_of (lawful_field L) (plane_of K g) (row_of K.ring (c j))) (u j)))
        ≡ value_of (lawful_field L) (plane_of K g) (plane_combination K.ring n c M)
    cleared-sum t u zero c M h = mul_zero A AL t ∙ sym V.on_zero
    cleared-sum t u (suc n) c M h =
        let s = sum_below A n (λ j. A.mul (value_of F G (row_of F.ring (c j))) (u j)) in
        let v = value_of F G (row_of F.ring (c n)) in
        ring4 A AL (λ t s v u. t ⊗ (s ⊕ v ⊗ u)) (λ t s v u. t ⊗ s ⊕ v ⊗ (t ⊗ u)) refl t s v (u n)
        ∙ ap₂ (λ a b. A.add a (A.mul v b)) (cleared-sum t u n c M (λ j l. h j (omega (arith, l))))
        (h n (omega arith))
        ∙ sym (V.on_add (plane_combination F.ring n c M)
        ((planes F).mul (row_of F.ring (c n)) (M n))
        ∙ ap (A.add (value_of F G (plane_combination F.ring n c M)))
        (V.on_mul (row_of F.ring (c n)) (M n)))

    constants : (p : List ℕ) (i : ℕ) (u : ℕ → (algebra_in L g).carrier) (n : ℕ)
        → linear_sum L g p i u n ≡ sum_below (algebra_in L g) n (λ j. (algebra_in L g).mul
        (value_of (lawful_field L) (plane_of K g) (row_of K.ring (constant_after K p i j))) (u j))
    unfolding constant poly
    constants p i u n = sum-ext A AL n (λ j. A.mul (coefficient_in L g p (i + j)) (u j))
        (λ j. A.mul (value_of F G (row_of F.ring (constant_after K p i j))) (u j))
        (λ j l. ap (λ a. A.mul (value_of F G (row_of F.ring (const K.ring L.laws L.tests a))) (u j))
        (trim-coeff K.ring L.laws L.tests (map K.value p) (i + j)))

    -- a sum of multiples and an element, over the common denominator
    pub mixture-value : (u : ℕ → (algebra_in L g).carrier) (list : Cleared) (c d p den : List ℕ)
        (i : ℕ) (e : Elem) (N : List (List ℕ)) → IsElem L g e
        → IsCommonMultiple K list.den e.den c d → IsCleared K list
        → poly_of K den ≡ (polynomials K.ring).mul (poly_of K c) (poly_of K list.den)
        → IsMixture K c p i list.planes d e.num N → AreCleared L g u list
        → over_in L g N den ≡ (algebra_in L g).add (linear_sum L g p i u (length list.planes))
        (elem_of L g e)
    mixture-value u list c d p den i e N he h hl hd hn k = sym (over_one F G (plane_of K N)
        (poly_of K den) _
        (ap (λ t. D.same t D.zero) hd ∙ D.no_divisors (poly_of K c) (poly_of K list.den)
        (poly-nonzero K L c h.left h.some_left) (poly-nonzero K L list.den hl.den hl.nonzero))
        (AL.mul_add (poly_in L g den) (linear_sum L g p i u (length list.planes)) (elem_of L g e)
        ∙ ap₂ A.add block rest
        ∙ sym (ap (value_of F G) hn ∙ V.on_add _ _
        ∙ ap₂ A.add (V.on_mul (row_of F.ring (poly_of K c)) (block_of K p i list.planes))
        (V.on_mul (row_of F.ring (poly_of K d)) (plane_of K e.num)))))
      where
        left : poly_in L g den ≡ A.mul (poly_in L g c) (poly_in L g list.den)
        left = product-value K L g den c list.den hd

        right : poly_in L g den ≡ A.mul (poly_in L g d) (poly_in L g e.den)
        right = product-value K L g den d e.den (hd ∙ h.equal)

        block : A.mul (poly_in L g den) (linear_sum L g p i u (length list.planes))
            ≡ A.mul (poly_in L g c) (value_of F G (block_of K p i list.planes))
        block = ap₂ A.mul left (constants p i u (length list.planes))
            ∙ AL.mul_assoc (poly_in L g c) (poly_in L g list.den) _
            ∙ ap (A.mul (poly_in L g c)) (cleared-sum (poly_in L g list.den) u (length list.planes)
            (λ j. constant_after K p i j) (λ j. plane_of K (get_or list.planes j [])) k)

        rest : A.mul (poly_in L g den) (elem_of L g e)
            ≡ A.mul (poly_in L g d) (plane_in L g e.num)
        rest = ap (λ t. A.mul t (elem_of L g e)) right
            ∙ AL.mul_assoc (poly_in L g d) (poly_in L g e.den) (elem_of L g e)
            ∙ ap (A.mul (poly_in L g d)) (element_clear F G (poly_of K e.den)
            (map (λ p. poly_of K p) e.num) (element-nonzero K L g e he))

    -- past the end the coefficients are 0
    pub coefficient-past : (p : List ℕ) (j : ℕ) → length p ≤ j → coefficient_in L g p j
        ≡ (algebra_in L g).zero
    unfolding poly
    coefficient-past p j l = ap (constant F G) (trim-coeff K.ring L.laws L.tests (map K.value p) j
        ∙ coeff-past K.ring K.value p j l) ∙ (constant_map F G).on_zero

    -- all coefficients give the polynomial
    pub coefficients-whole : (X : (algebra_in L g).carrier) (p : List ℕ) (i : ℕ) → i ≡ 0
        → horner (algebra_in L g) X (from_index i (coefficient_in L g p)) (length p)
        ≡ poly_at (lawful_field L) (plane_of K g) X (poly_of K p)
    coefficients-whole X p i z = horner-all A AL X (coefficient_in L g p) (length p) i z
        ∙ sym (poly_at-horner F G X (poly_of K p) (length p) (poly-short K L p))
