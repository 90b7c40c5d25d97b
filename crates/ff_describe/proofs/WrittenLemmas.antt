-- What relations of elements and levels write, for an equation f over a field whose laws are L.
use Rattle.std.proofs.Common.{◌≡◌, ℕ, zero, suc, ◌+◌, ◌-◌, ◌*◌, ◌<◌, ◌≤◌, ◌⊎◌, inl, inr, List, []}
use Rattle.std.proofs.Common.{length, map, get_or, refl, sym, ◌∙◌, ap, ap₂, subst, arith}
use Rattle.std.proofs.lemmas.Bool.{cases_lt, cond_below, cond_above}
use Rattle.std.proofs.Math.Dec.{ltb}
use Rattle.std.proofs.Math.Bool.{cond}
use Rattle.ff_theory.specs.Ring.{RingOps, IsCommRing, Elements, power}
use Rattle.ff_theory.specs.Lawful.{Field, Lawful, lawful_field}
use Rattle.ff_theory.specs.Map.{IsMap}
use Rattle.ff_theory.specs.Sum.{sum_below}
use Rattle.ff_theory.specs.Span.{combination}
use Rattle.ff_theory.specs.Planes.{Plane}
use Rattle.ff_theory.specs.Poly.{coeff, poly}
use Rattle.ff_theory.specs.Values.{poly_of, plane_of, leading, IsPoly}
use Rattle.ff_theory.specs.Vector.{vector_of, vectors_of}
use Rattle.ff_theory.proofs.Poly.{trim-coeff}
use Rattle.ff_theory.proofs.Division.{size_le}
use Rattle.ff_theory.proofs.Coeffs.{coeff-past}
use Rattle.ff_theory.proofs.Sums.{sum-ext, sum-zero}
use Rattle.ff_theory.proofs.Solver.{◌⊕◌, ◌⊗◌, neg, nil, ring1, mul_zero}
use Rattle.ff_theory.proofs.Horner.{horner, horner-ext, horner-sum}
use Rattle.ff_theory.proofs.Constants.{constant_map, poly_at-horner}
use Rattle.ff_theory.proofs.Element.{algebra_is_ring}
use Rattle.ff_poly.proofs.Scaling.{lead-nonzero}
use Rattle.ff_lin.specs.Space.{SpaceParts, InSpace, HasExactly}
use Rattle.ff_elem.specs.declared.elem.Elem.{Elem}
use Rattle.ff_elem.specs.Elem.{algebra_in, elem_of}
use Rattle.ff_data.specs.declared.system.Coords.{Coords}
use Rattle.ff_data.specs.Substitution.{poly_at}
use Rattle.ff_data.specs.Combinations.{elems_of, constant_in, IsRelationOf}
use Rattle.ff_data.specs.Systems.{ring_value, at_z, IsExpression, AreOverMonic, IsWithinWeight}
use Rattle.ff_systems.specs.Places.{frame}
use Rattle.ff_describe.specs.Levels.{offset, HasLevels, AreCounts, AreDescending, product_of}
use Rattle.ff_describe.specs.Readings.{AreCut, IsLed, IsWrittenBy, AreZero, IsUnit}
use Rattle.ff_describe.proofs.LevelSums.{linear_sum, poly_sum, written, relation-writes}
use Rattle.ff_describe.proofs.LevelSums.{written-relation, linear-unit, linear-falling, spread}
use Rattle.ff_describe.proofs.LevelSums.{spread-at}

module _ (K : Elements ℕ) (L : Lawful K) (f : List (List ℕ)) where
  abbrev F : Field
  F = lawful_field L

  abbrev G : Plane (lawful_field L)
  G = plane_of K f

  abbrev A : RingOps
  A = algebra_in L f

  AL : IsCommRing (algebra_in L f)
  AL = algebra_is_ring (lawful_field L) (plane_of K f)

  H : IsMap K.ring (algebra_in L f) (constant_in L f)
  H = constant_map (lawful_field L) (plane_of K f)

  abbrev linear : ℕ → (ℕ → K.carrier) → (ℕ → (algebra_in L f).carrier)
      → (algebra_in L f).carrier
  linear n v u = sum_below (algebra_in L f) n
      (λ i. (algebra_in L f).mul (constant_in L f (v i)) (u i))

  poly-short : (p : List ℕ) → length (poly_of K p).coeffs ≤ length p
  unfolding poly
  poly-short p = size_le K.ring L.laws L.tests (poly_of K p) (length p)
      (λ i h. trim-coeff K.ring L.laws L.tests (map K.value p) i ∙ coeff-past K.ring K.value p i h)

  poly-entry : (p : List ℕ) (i : ℕ) → coeff K.ring (poly_of K p).coeffs i ≡ vector_of K p i
  unfolding poly
  poly-entry p i = trim-coeff K.ring L.laws L.tests (map K.value p) i

  -- a polynomial at an element as a sum of its powers
  poly-value : (X : (algebra_in L f).carrier) (p : List ℕ) (n : ℕ) → length p ≤ n
      → sum_below (algebra_in L f) n (λ a. (algebra_in L f).mul (constant_in L f (vector_of K p a))
      (power (algebra_in L f) X a))
      ≡ poly_at (lawful_field L) (plane_of K f) X (poly_of K p)
  poly-value X p n h = let k : length (poly_of K p).coeffs ≤ length p = poly-short p in
      sym (horner-sum A AL X (λ a. constant_in L f (vector_of K p a)) n)
      ∙ horner-ext A AL X (λ a. constant_in L f (vector_of K p a))
      (λ a. constant_in L f (coeff K.ring (poly_of K p).coeffs a)) n
      (λ a l. ap (constant_in L f) (sym (poly-entry p a)))
      ∙ sym (poly_at-horner F G X (poly_of K p) n (omega (arith, h, k)))

  module _ (e : ℕ) (z : Elem) (b : List Elem) (weights counts : List ℕ) (heads ws : List Elem)
      (levels : HasLevels L f heads z b counts (length counts) ws) where
    -- the blocks of the levels write the value of coordinates
    written-value : (c : List (List ℕ)) → length c ≡ length counts
        → ((l : ℕ) → l < length counts → length (get_or c l []) ≤ get_or counts l 0)
        → sum_below (algebra_in L f) (length counts) (λ l. (algebra_in L f).mul
        (sum_below (algebra_in L f) (get_or counts l 0) (λ a. (algebra_in L f).mul
        (constant_in L f (vector_of K (get_or c l []) a)) (power (algebra_in L f)
        (elem_of L f z) a)))
        (elems_of L f b l))
        ≡ ring_value L f (frame e z b weights) c
    written-value c len short = sum-ext A AL (length counts) (λ l. A.mul
        (sum_below A (get_or counts l 0) (λ a. A.mul
        (constant_in L f (vector_of K (get_or c l []) a)) (power A (elem_of L f z) a)))
        (elems_of L f b l))
        (λ l. A.mul (at_z L f (frame e z b weights) (get_or c l [])) (elems_of L f b l))
        (λ l q. ap (λ t. A.mul t (elems_of L f b l)) (poly-value (elem_of L f z) (get_or c l [])
        (get_or counts l 0) (short l q)))
        ∙ ap (λ n. sum_below A n (λ l. A.mul (at_z L f (frame e z b weights) (get_or c l []))
        (elems_of L f b l))) (sym len)

    -- a relation writes the sum of its first terms
    pub cut-writes : (v : ℕ → K.carrier) (c : List (List ℕ)) → IsRelationOf L f ws v
        → AreCut K counts (length heads) v c
        → linear (length heads) v (elems_of L f ws) ≡ ring_value L f (frame e z b weights) c
    cut-writes v c r cut = relation-writes A AL K.ring (constant_in L f) H (elem_of L f z)
        (elems_of L f b) counts (length heads) (λ l. vector_of K (get_or c l [])) v
        (elems_of L f ws) (length counts) levels.value cut.value
        (ap (λ n. linear n v (elems_of L f ws)) (sym levels.len) ∙ r)
        ∙ written-value c cut.count cut.short

    -- a row that is one at an index alone
    pub unit-writes : (v : ℕ → K.carrier) (c : List (List ℕ)) (r : ℕ) → r < length heads
        → IsRelationOf L f ws v → IsUnit K (length heads) r v → AreCut K counts (length heads) v c
        → ring_value L f (frame e z b weights) c ≡ elems_of L f heads r
    unit-writes v c r l h unit cut = sym (cut-writes v c h cut)
        ∙ linear-unit A AL K.ring (constant_in L f) H (length heads) r v (elems_of L f ws) l unit
        ∙ levels.before r l

    -- a polynomial of falling powers
    module _ (w : Elem) (m : ℕ) (falling : AreDescending L f z w m heads) where
      falls : (v : ℕ → K.carrier) (q : List ℕ) → length q ≤ length heads
          → ((i j : ℕ) → i + j + 1 ≡ length heads → v i ≡ vector_of K q j)
          → linear (length heads) v (elems_of L f ws)
          ≡ (algebra_in L f).mul (at_z L f (frame e z b weights) q) (elem_of L f w)
      falls v q short h = linear-falling A AL K.ring (constant_in L f) H (elem_of L f z)
          (elem_of L f w) (length heads) (vector_of K q) v (elems_of L f ws) h
          (λ i j s. levels.before i (omega (arith, s))
          ∙ falling.value i j (omega (arith, s, falling.len)))
          ∙ ap (λ t. A.mul t (elem_of L f w)) (poly-value (elem_of L f z) q (length heads) short)

      pub falling-writes : (v : ℕ → K.carrier) (c : Coords) → IsRelationOf L f ws v
          → IsWrittenBy K (length heads) counts v c
          → (algebra_in L f).mul (at_z L f (frame e z b weights) c.q) (elem_of L f w)
          ≡ ring_value L f (frame e z b weights) c.c
      falling-writes v c r h = sym (falls v c.q h.short (λ i j s.
          let t : length heads - 1 - j ≡ i = omega (arith, s) in
          sym (h.value j (omega (arith, s)) ∙ ap v t)))
          ∙ cut-writes v c.c r h.cut

      -- what writes z's polynomial times w gives a relation
      abbrev pub relation_for : List ℕ → List (List ℕ) → ℕ → K.carrier
      relation_for q c i = cond (ltb i (length heads)) (vector_of K q (length heads - 1 - i))
          (K.neg (spread K.zero counts (λ l. vector_of K (get_or c l [])) (length counts)
          (i - length heads)))

      pub relation-head : (q : List ℕ) (c : List (List ℕ)) (i j : ℕ) → i + j + 1 ≡ length heads
          → relation_for q c i ≡ vector_of K q j
      relation-head q c i j s = let t : length heads - 1 - i ≡ j = omega (arith, s) in
          sym (cond_below i (length heads) (vector_of K q (length heads - 1 - i))
          (K.neg (spread K.zero counts (λ l. vector_of K (get_or c l [])) (length counts)
          (i - length heads))) (omega (arith, s))) ∙ ap (vector_of K q) t

      relation-level : (q : List ℕ) (c : List (List ℕ)) (l a : ℕ) → l < length counts
          → a < get_or counts l 0
          → vector_of K (get_or c l []) a
          ≡ K.neg (relation_for q c (length heads + (offset counts l + a)))
      relation-level q c l a h k = let j : ℕ = offset counts l + a in
          let t : length heads + (offset counts l + a) - length heads
          ≡ offset counts l + a = omega arith in
          ring1 K.ring L.laws (λ x. x) (λ x. neg (neg x)) refl (vector_of K (get_or c l []) a)
          ∙ ap (λ x. K.neg (K.neg x)) (sym (spread-at K.zero counts
          (λ l. vector_of K (get_or c l [])) (length counts) l a h k))
          ∙ ap K.neg (ap (λ j. K.neg (spread K.zero counts (λ l. vector_of K (get_or c l []))
          (length counts) j)) (sym t)
          ∙ cond_above (length heads + (offset counts l + a)) (length heads)
          (vector_of K q (length heads - 1 - (length heads + (offset counts l + a))))
          (K.neg (spread K.zero counts (λ l. vector_of K (get_or c l [])) (length counts)
          (length heads + (offset counts l + a) - length heads)))
          (K.neg (spread K.zero counts (λ l. vector_of K (get_or c l [])) (length counts)
          (length heads + (offset counts l + a) - length heads))) (omega arith) refl)

      pub writes-relation : (q : List ℕ) (c : List (List ℕ)) → length q ≤ length heads
          → length c ≡ length counts
          → ((l : ℕ) → l < length counts → length (get_or c l []) ≤ get_or counts l 0)
          → (algebra_in L f).mul (at_z L f (frame e z b weights) q) (elem_of L f w)
          ≡ ring_value L f (frame e z b weights) c
          → IsRelationOf L f ws (relation_for q c)
      writes-relation q c few len short h =
          ap (λ n. linear n (relation_for q c) (elems_of L f ws)) levels.len
          ∙ written-relation A AL K.ring (constant_in L f) H (elem_of L f z) (elems_of L f b)
          counts (length heads) (λ l. vector_of K (get_or c l [])) (relation_for q c)
          (elems_of L f ws) (length counts) levels.value (relation-level q c)
          (falls (relation_for q c) q few (relation-head q c) ∙ h ∙ sym (written-value c len short))
