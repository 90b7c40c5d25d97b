-- The relations of products and levels, where the functions write their products: the rows of the
-- echelon basis are those that write the products. For an equation f over a field whose laws are L.
use Rattle.std.proofs.Common.{◌≡◌, ℕ, zero, suc, ◌+◌, ◌-◌, ◌*◌, ◌<◌, ◌≤◌, ◌⊎◌, inl, inr, List, []}
use Rattle.std.proofs.Common.{length, get_or, refl, sym, ◌∙◌, ap, subst, arith}
use Rattle.std.proofs.lemmas.Bool.{cases_lt, cond_below, cond_above}
use Rattle.std.proofs.lemmas.List.Elements.{All-get_or}
use Rattle.std.proofs.Math.Dec.{ltb}
use Rattle.std.proofs.Math.Bool.{cond}
use Rattle.ff_theory.specs.Ring.{RingOps, IsCommRing, Elements, power}
use Rattle.ff_theory.specs.Lawful.{Field, Lawful, lawful_field}
use Rattle.ff_theory.specs.Map.{IsMap}
use Rattle.ff_theory.specs.Sum.{sum_below}
use Rattle.ff_theory.specs.Span.{unit_at, EndsAt}
use Rattle.ff_theory.specs.Planes.{Plane}
use Rattle.ff_theory.specs.Poly.{coeff, Poly, polynomials}
use Rattle.ff_theory.specs.Division.{size}
use Rattle.ff_theory.specs.Values.{plane_of, IsPoly}
use Rattle.ff_theory.specs.Vector.{vector_of, vectors_of}
use Rattle.ff_theory.proofs.Division.{size_le, coeff-beyond}
use Rattle.ff_theory.proofs.Coeffs.{coeff-past}
use Rattle.ff_theory.proofs.Sums.{sum-ext, sum-zero}
use Rattle.ff_theory.proofs.Solver.{◌⊗◌, neg, nil, ring1, zero_mul}
use Rattle.ff_theory.proofs.Horner.{horner, horner-ext, horner-sum}
use Rattle.ff_theory.proofs.Constants.{constant_map, poly_at-horner}
use Rattle.ff_theory.proofs.Element.{algebra_is_ring}
use Rattle.ff_charts.proofs.Rows.{polynomial_of, polynomial_at, polynomial_past, polynomial_size}
use Rattle.ff_poly.proofs.Scaling.{lead-nonzero}
use Rattle.ff_lin.specs.Space.{SpaceParts, IsSpace, InSpace, HasExactly}
use Rattle.ff_elem.specs.declared.elem.Elem.{Elem}
use Rattle.ff_elem.specs.Elem.{algebra_in, elem_of}
use Rattle.ff_data.specs.Substitution.{poly_at}
use Rattle.ff_data.specs.Combinations.{elems_of, constant_in, IsRelationOf}
use Rattle.ff_systems.specs.Places.{frame, coords_value, HasLightCoords, WritesProducts}
use Rattle.ff_describe.specs.Levels.{offset, triangle, HasLevels, AreCounts, AreProducts}
use Rattle.ff_describe.specs.Levels.{product_of}
use Rattle.ff_describe.specs.Readings.{AreCut, AreLight, AreZero, IsUnit}
use Rattle.ff_table.proofs.Scalars.{zero-coeff}
use Rattle.ff_describe.proofs.ElemLemmas.{triangle-next}
use Rattle.ff_describe.proofs.LevelSums.{relation-writes, written-relation}
use Rattle.ff_describe.proofs.LevelSums.{linear-unit, spread, spread-at}
use Rattle.ff_describe.proofs.UnitRows.{pivot-is, row-is}

-- an index of a block
pub record InBlock (counts : List ℕ) (m j : ℕ) : Type 0 where
  pub block : ℕ
  pub rest : ℕ
  pub below : block < m
  pub within : rest < get_or counts block 0
  pub is : j ≡ offset counts block + rest

pub block_of : (counts : List ℕ) (m j : ℕ) → j < offset counts m → InBlock counts m j
block_of counts zero j l = absurd (omega (arith, l))
block_of counts (suc m) j l = go (cases_lt j (offset counts m)) (λ q. block_of counts m j q)
  where
    go : (j < offset counts m) ⊎ (offset counts m ≤ j)
        → (j < offset counts m → InBlock counts m j) → InBlock counts (suc m) j
    go (inl q) r = record {
      block = (r q).block;
      rest = (r q).rest;
      below = omega (arith, (r q).below);
      within = (r q).within;
      is = (r q).is;
    }
    go (inr q) r = record {
      block = m;
      rest = j - offset counts m;
      below = omega arith;
      within = omega (arith, q, l);
      is = omega (arith, q);
    }

-- an index of a triangle
pub record InTriangle (m r : ℕ) : Type 0 where
  pub row : ℕ
  pub place : ℕ
  pub below : row < m
  pub within : place ≤ row
  pub is : r ≡ triangle row + place

pub triangle_at : (m r : ℕ) → r < triangle m → InTriangle m r
triangle_at zero r l = absurd (omega (arith, l))
triangle_at (suc m) r l = go (cases_lt r (triangle m)) (λ q. triangle_at m r q)
  where
    go : (r < triangle m) ⊎ (triangle m ≤ r) → (r < triangle m → InTriangle m r)
        → InTriangle (suc m) r
    go (inl q) h = record {
      row = (h q).row;
      place = (h q).place;
      below = omega (arith, (h q).below);
      within = (h q).within;
      is = (h q).is;
    }
    go (inr q) h = record {
      row = m;
      place = r - triangle m;
      below = omega arith;
      within = omega (arith, q, l);
      is = omega (arith, q);
    }

-- which is one alone
triangle-same : (k m i j : ℕ) → i ≤ k → j ≤ m → triangle k + i ≡ triangle m + j
    → (k ≡ m) × (i ≡ j)
triangle-same k m i j p q h = go (cases_lt k m) (cases_lt m k)
  where
    go : (k < m) ⊎ (m ≤ k) → (m < k) ⊎ (k ≤ m) → (k ≡ m) × (i ≡ j)
    go (inl l) r = absurd (let t : triangle k + suc k ≤ triangle m = triangle-next m k l in
        omega (arith, t, h, p))
    go (inr l) (inl r) = absurd (let t : triangle m + suc m ≤ triangle k = triangle-next k m r in
        omega (arith, t, h, q))
    go (inr l) (inr r) = let e : k ≡ m = omega (arith, l, r) in
        let t : triangle k ≡ triangle m = ap triangle e in (e, omega (arith, h, t))

module _ (K : Elements ℕ) (L : Lawful K) (f : List (List ℕ)) (e bound : ℕ) (z : Elem)
    (b : List Elem) (weights counts : List ℕ) (heads ws : List Elem) (many : length b ≡ e)
    (count : length weights ≡ e) (limits : AreCounts e bound weights counts)
    (products : AreProducts L f b (length b) heads)
    (levels : HasLevels L f heads z b counts (length counts) ws) where
  abbrev G : Plane (lawful_field L)
  G = plane_of K f

  abbrev A : RingOps
  A = algebra_in L f

  AL : IsCommRing (algebra_in L f)
  AL = algebra_is_ring (lawful_field L) (plane_of K f)

  H : IsMap K.ring (algebra_in L f) (constant_in L f)
  H = constant_map (lawful_field L) (plane_of K f)

  abbrev n : ℕ
  n = length heads

  blocks : length counts ≡ e
  blocks = limits.count ∙ count

  abbrev X : (algebra_in L f).carrier
  X = elem_of L f z

  abbrev linear : ℕ → (ℕ → K.carrier) → (algebra_in L f).carrier
  linear m v = sum_below (algebra_in L f) m
      (λ i. (algebra_in L f).mul (constant_in L f (v i)) (elems_of L f ws i))

  -- a polynomial at z as a sum of its powers
  poly-value : (p : Poly K.ring) (m : ℕ) → size K.ring p ≤ m
      → sum_below (algebra_in L f) m (λ a. (algebra_in L f).mul
      (constant_in L f (coeff K.ring p.coeffs a)) (power (algebra_in L f) (elem_of L f z) a))
      ≡ poly_at (lawful_field L) (plane_of K f) (elem_of L f z) p
  poly-value p m h = sym (horner-sum A AL X (λ a. constant_in L f (coeff K.ring p.coeffs a)) m)
      ∙ sym (poly_at-horner (lawful_field L) G X p m h)

  -- the blocks write the value of coordinates within the counts
  blocks-value : (c : ℕ → Poly K.ring)
      → ((l : ℕ) → l < length counts → size K.ring (c l) ≤ get_or counts l 0)
      → sum_below (algebra_in L f) (length counts) (λ l. (algebra_in L f).mul
      (sum_below (algebra_in L f) (get_or counts l 0) (λ a. (algebra_in L f).mul
      (constant_in L f (coeff K.ring (c l).coeffs a)) (power (algebra_in L f) (elem_of L f z) a)))
      (elems_of L f b l))
      ≡ coords_value L f (frame e z b weights) c
  blocks-value c short = sum-ext A AL (length counts) _ (λ l. A.mul
      (poly_at (lawful_field L) G X (c l)) (elems_of L f b l))
      (λ l q. ap (λ t. A.mul t (elems_of L f b l)) (poly-value (c l) (get_or counts l 0)
      (short l q)))
      ∙ ap (λ m. sum_below A m (λ l. A.mul (poly_at (lawful_field L) G X (c l))
      (elems_of L f b l))) blocks

  -- coordinates of a weight within the bound are within the counts
  light-size : (c : ℕ → Poly K.ring) (w : ℕ) → w ≤ bound
      → ((l : ℕ) → l < e → (d : ℕ) → suc w ≤ e * d + get_or weights l 0
      → coeff K.ring (c l).coeffs d ≡ K.zero)
      → (l : ℕ) → l < length counts → size K.ring (c l) ≤ get_or counts l 0
  light-size c w h light l q = size_le K.ring L.laws L.tests (c l) (get_or counts l 0)
      (λ d k. light l (omega (arith, q, blocks)) d (go d k
      (cases_lt w (e * d + get_or weights l 0))))
    where
      go : (d : ℕ) → get_or counts l 0 ≤ d
          → (w < e * d + get_or weights l 0) ⊎ (e * d + get_or weights l 0 ≤ w)
          → suc w ≤ e * d + get_or weights l 0
      go d k (inl o) = omega (arith, o)
      go d k (inr o) = absurd (let t : d < get_or counts l 0 = (limits.each l
          (omega (arith, q, limits.count)) d).1 (omega (arith, o, h)) in omega (arith, t, k))

  -- a row with given first entries and the negatives of the coefficients
  abbrev row-for : (ℕ → K.carrier) → (ℕ → Poly K.ring) → ℕ → K.carrier
  row-for h c i = cond (ltb i (length heads)) (h i) (K.neg (spread K.zero counts
      (λ l a. coeff K.ring (c l).coeffs a) (length counts) (i - length heads)))

  head-at : (h : ℕ → K.carrier) (c : ℕ → Poly K.ring) (i : ℕ) → i < length heads
      → row-for h c i ≡ h i
  head-at h c i l = sym (cond_below i (length heads) (h i) (K.neg (spread K.zero counts
      (λ l a. coeff K.ring (c l).coeffs a) (length counts) (i - length heads))) l)

  level-at : (h : ℕ → K.carrier) (c : ℕ → Poly K.ring) (l a : ℕ) → l < length counts
      → a < get_or counts l 0
      → coeff K.ring (c l).coeffs a ≡ K.neg (row-for h c (length heads + (offset counts l + a)))
  level-at h c l a p q = let t : length heads + (offset counts l + a) - length heads
      ≡ offset counts l + a = omega arith in
      ring1 K.ring L.laws (λ x. x) (λ x. neg (neg x)) refl (coeff K.ring (c l).coeffs a)
      ∙ ap (λ x. K.neg (K.neg x)) (sym (spread-at K.zero counts
      (λ l a. coeff K.ring (c l).coeffs a) (length counts) l a p q))
      ∙ ap K.neg (ap (λ j. K.neg (spread K.zero counts (λ l a. coeff K.ring (c l).coeffs a)
      (length counts) j)) (sym t)
      ∙ cond_above (length heads + (offset counts l + a)) (length heads)
      (h (length heads + (offset counts l + a)))
      (K.neg (spread K.zero counts (λ l a. coeff K.ring (c l).coeffs a) (length counts)
      (length heads + (offset counts l + a) - length heads)))
      (K.neg (spread K.zero counts (λ l a. coeff K.ring (c l).coeffs a) (length counts)
      (length heads + (offset counts l + a) - length heads))) (omega arith) refl)

  -- past the last block there is nothing
  spread-none : (c : ℕ → Poly K.ring)
      → ((l : ℕ) → l < length counts → size K.ring (c l) ≤ get_or counts l 0) → (m j : ℕ)
      → m ≤ length counts → offset counts m ≤ j
      → spread K.zero counts (λ l a. coeff K.ring (c l).coeffs a) m j ≡ K.zero
  spread-none c short zero j l k = refl
  spread-none c short (suc m) j l k = let s : size K.ring (c m) ≤ get_or counts m 0
      = short m (omega (arith, l)) in
      sym (cond_above j (offset counts m)
      (spread K.zero counts (λ l a. coeff K.ring (c l).coeffs a) m j)
      (coeff K.ring (c m).coeffs (j - offset counts m))
      (coeff K.ring (c m).coeffs (j - offset counts m)) (omega (arith, k)) refl)
      ∙ coeff-beyond K.ring L.laws L.tests (c m).coeffs (j - offset counts m)
      (omega (arith, k, s))

  row-ends : (h : ℕ → K.carrier) (c : ℕ → Poly K.ring)
      → ((l : ℕ) → l < length counts → size K.ring (c l) ≤ get_or counts l 0)
      → EndsAt K.ring (length heads + offset counts (length counts)) (row-for h c)
  row-ends h c short j l = sym (cond_above j (length heads) (h j)
      (K.neg (spread K.zero counts (λ l a. coeff K.ring (c l).coeffs a) (length counts)
      (j - length heads)))
      (K.neg (spread K.zero counts (λ l a. coeff K.ring (c l).coeffs a) (length counts)
      (j - length heads))) (omega (arith, l)) refl)
      ∙ ap K.neg (spread-none c short (length counts) (j - length heads) (omega arith)
      (omega (arith, l)))
      ∙ ring1 K.ring L.laws (λ x. neg nil) (λ x. nil) refl K.zero

  -- a row that is one at an index is a relation, where the coordinates write that element
  row-relation : (r : ℕ) → r < length heads → (c : ℕ → Poly K.ring)
      → ((l : ℕ) → l < length counts → size K.ring (c l) ≤ get_or counts l 0)
      → elems_of L f heads r ≡ coords_value L f (frame e z b weights) c
      → IsRelationOf L f ws (row-for (unit_at K.ring r) c)
  row-relation r q c short value = ap (λ m. linear m (row-for (unit_at K.ring r) c)) levels.len
      ∙ written-relation A AL K.ring (constant_in L f) H X (elems_of L f b) counts n
      (λ l a. coeff K.ring (c l).coeffs a) (row-for (unit_at K.ring r) c) (elems_of L f ws)
      (length counts) levels.value (level-at (unit_at K.ring r) c)
      (linear-unit A AL K.ring (constant_in L f) H n r (row-for (unit_at K.ring r) c)
      (elems_of L f ws) q (λ j l. head-at (unit_at K.ring r) c j l)
      ∙ levels.before r q ∙ value ∙ sym (blocks-value c short))

  module _ (writes : WritesProducts L f (frame e z b weights)) (s : SpaceParts)
      (space : IsSpace K s) (len : s.len ≡ length heads + offset counts (length counts))
      (exact : HasExactly K s (IsRelationOf L f ws))
      (small : (i k : ℕ) → i < e → k < e → get_or weights i 0 + get_or weights k 0 ≤ bound) where
    -- only zeros begin with zeros
    only-zeros : (u : ℕ → K.carrier) → InSpace K s u → AreZero K (length heads) u → (j : ℕ)
        → u j ≡ K.zero
    only-zeros u inside zeros j = go (cases_lt j n)
        (cases_lt j (n + offset counts (length counts)))
      where
        p : ℕ → ℕ → K.carrier
        p l a = K.neg (u (length heads + (offset counts l + a)))

        c : ℕ → Poly K.ring
        c l = polynomial_of K.ring L.laws L.tests (get_or counts l 0)
            (λ a. K.neg (u (length heads + (offset counts l + a))))

        none : linear (length heads) u ≡ (algebra_in L f).zero
        none = sum-ext A AL n _ (λ i. A.zero) (λ i l. ap (λ t. A.mul (constant_in L f t)
            (elems_of L f ws i)) (zeros i l)
            ∙ ap (λ t. A.mul t (elems_of L f ws i)) H.on_zero ∙ zero_mul A AL (elems_of L f ws i))
            ∙ sum-zero A AL n

        value : coords_value L f (frame e z b weights)
            (λ l. polynomial_of K.ring L.laws L.tests (get_or counts l 0)
            (λ a. K.neg (u (length heads + (offset counts l + a))))) ≡ (algebra_in L f).zero
        value = sym (blocks-value (λ l. polynomial_of K.ring L.laws L.tests (get_or counts l 0)
            (λ a. K.neg (u (length heads + (offset counts l + a)))))
            (λ l q. polynomial_size K.ring L.laws L.tests (get_or counts l 0)
            (λ a. K.neg (u (length heads + (offset counts l + a))))))
            ∙ sum-ext A AL (length counts) _ _ (λ l q. ap (λ t. A.mul t (elems_of L f b l))
            (sum-ext A AL (get_or counts l 0) _ _ (λ a o. ap (λ t. A.mul (constant_in L f t)
            (power A X a)) (polynomial_at K.ring L.laws L.tests (get_or counts l 0)
            (λ a. K.neg (u (length heads + (offset counts l + a)))) a o))))
            ∙ sym (relation-writes A AL K.ring (constant_in L f) H X (elems_of L f b) counts n
            (λ l a. K.neg (u (length heads + (offset counts l + a)))) u (elems_of L f ws)
            (length counts) levels.value (λ l a q o. refl)
            (ap (λ m. linear m u) (sym levels.len) ∙ ((exact u).0 inside).1)) ∙ none

        at-block : InBlock counts (length counts) (j - length heads) → length heads ≤ j
            → u j ≡ K.zero
        at-block k l = let t : length heads + (offset counts k.block + k.rest) ≡ j = omega (
          arith,
          k.is,
          l,
        ) in
            ap u (sym t)
            ∙ ring1 K.ring L.laws (λ x. x) (λ x. neg (neg x)) refl
            (u (length heads + (offset counts k.block + k.rest)))
            ∙ ap K.neg (sym (polynomial_at K.ring L.laws L.tests (get_or counts k.block 0)
            (λ a. K.neg (u (length heads + (offset counts k.block + a)))) k.rest k.within)
            ∙ ap (λ (q : Poly K.ring). coeff K.ring q.coeffs k.rest)
            (writes.independent (λ l. polynomial_of K.ring L.laws L.tests (get_or counts l 0)
            (λ a. K.neg (u (length heads + (offset counts l + a))))) value k.block
            (omega (arith, k.below, blocks))) ∙ zero-coeff K.ring k.rest)
            ∙ ring1 K.ring L.laws (λ x. neg nil) (λ x. nil) refl K.zero

        go : (j < length heads) ⊎ (length heads ≤ j)
            → (j < length heads + offset counts (length counts))
            ⊎ (length heads + offset counts (length counts) ≤ j) → u j ≡ K.zero
        go (inl l) k = zeros j l
        go (inr l) (inl k) = at-block (block_of counts (length counts) (j - length heads)
            (omega (arith, l, k))) l
        go (inr l) (inr k) = ((exact u).0 inside).0 j (omega (arith, k, len))

    -- the row that writes the product at an index
    place : (r : ℕ) → r < length heads → InTriangle e r
    place r q = subst (λ m. InTriangle m r) many
        (triangle_at (length b) r (omega (arith, q, products.len)))

    written : (r : ℕ) (t : InTriangle e r)
        → HasLightCoords L f (frame e z b weights)
        (get_or weights t.place 0 + get_or weights t.row 0)
        (product_of L f b t.place t.row)
    written r t = writes.product t.place t.row (omega (arith, t.within, t.below)) t.below

    rows : (r : ℕ) → (r < length heads) ⊎ (length heads ≤ r) → ℕ → K.carrier
    rows r (inl q) = row-for (unit_at K.ring r) (written r (place r q)).coords
    rows r (inr q) = λ j. K.zero

    short-of : (r : ℕ) (t : InTriangle e r) (l : ℕ) → l < length counts
        → size K.ring ((written r t).coords l) ≤ get_or counts l 0
    short-of r t = light-size (written r t).coords
        (get_or weights t.place 0 + get_or weights t.row 0)
        (small t.place t.row (omega (arith, t.within, t.below)) t.below) (written r t).light

    row-inside : (r : ℕ) (q : (r < length heads) ⊎ (length heads ≤ r)) → r < length heads
        → InSpace K s (rows r q)
    unfolding rows
    row-inside r (inr o) q = absurd (omega (arith, o, q))
    row-inside r (inl o) q = (exact (row-for (unit_at K.ring r) (written r t).coords)).1 (
      (λ j l. row-ends (unit_at K.ring r) (written r t).coords (short-of r t) j
          (omega (arith, l, len))),
      row-relation r o (written r t).coords (short-of r t)
          (ap (elems_of L f heads) t.is ∙ products.value t.place t.row t.within
          (omega (arith, t.below, many)) ∙ (written r t).value),
    )
      where
        t : InTriangle e r
        t = place r o

    row-unit : (r : ℕ) (q : (r < length heads) ⊎ (length heads ≤ r)) → r < length heads
        → IsUnit K (length heads) r (rows r q)
    unfolding rows
    row-unit r (inr o) q = absurd (omega (arith, o, q))
    row-unit r (inl o) q = λ j l. head-at (unit_at K.ring r) (written r (place r o)).coords j l

    abbrev v : ℕ → ℕ → K.carrier
    v r = rows r (cases_lt r (length heads))

    inside : (r : ℕ) → r < length heads → InSpace K s (rows r (cases_lt r (length heads)))
    inside r q = row-inside r (cases_lt r (length heads)) q

    units : (r : ℕ) → r < length heads
        → IsUnit K (length heads) r (rows r (cases_lt r (length heads)))
    units r q = row-unit r (cases_lt r (length heads)) q

    -- there are as many rows as products
    pub enough : length heads ≤ length s.basis
    enough = go (length heads) refl
      where
        go : (m : ℕ) → m ≡ length heads → length heads ≤ length s.basis
        go zero h = omega (arith, h)
        go (suc m) h = let t : m < length s.basis = (pivot-is K L s space n v inside units
            only-zeros m (omega (arith, h))).0 in omega (arith, t, h)

    -- and they begin as unit vectors
    pub unit-begins : (r : ℕ) → r < length heads
        → IsUnit K (length heads) r (vectors_of K s.basis r)
    unit-begins r q j l = row-is K L s space n v inside units only-zeros r q j ∙ units r q j l

    -- the coordinates that such a row writes are light
    cut-light : (r : ℕ) (q : (r < length heads) ⊎ (length heads ≤ r)) → (c : List (List ℕ))
        → ((j : ℕ) → vectors_of K s.basis r j ≡ rows r q j)
        → AreCut K counts (length heads) (vectors_of K s.basis r) c → (i k : ℕ) → i ≤ k → k < e
        → r ≡ triangle k + i → AreLight e weights (get_or weights i 0 + get_or weights k 0) c
    unfolding rows
    cut-light r (inr o) c same cut i k p h is l below some = absurd (let a : triangle k + suc k
        ≤ triangle (length b) = triangle-next (length b) k (omega (arith, h, many)) in
        omega (arith, a, o, is, p, products.len))
    cut-light r (inl o) c same cut i k p h is l below some =
        go (cases_lt (get_or weights t.place 0 + get_or weights t.row 0) top)
      where
        t : InTriangle e r
        t = place r o

        a : ℕ
        a = length (get_or c l []) - 1

        top : ℕ
        top = e * (length (get_or c l []) - 1) + get_or weights l 0

        same-place : (triangle k + i ≡ triangle (place r o).row + (place r o).place)
            → (get_or weights i 0 + get_or weights k 0
            ≡ get_or weights (place r o).place 0 + get_or weights (place r o).row 0)
        same-place z = let u = triangle-same k (place r o).row i (place r o).place p
            (place r o).within z in
            ap (λ m. get_or weights m 0 + get_or weights k 0) u.1
            ∙ ap (λ m. get_or weights (place r o).place 0 + get_or weights m 0) u.0

        inside-counts : length (get_or c l []) - 1 < get_or counts l 0
        inside-counts = let u : length (get_or c l []) ≤ get_or counts l 0 = cut.short l
            (omega (arith, below, cut.count)) in omega (arith, u, some)

        go : (get_or weights (place r o).place 0 + get_or weights (place r o).row 0
            < e * (length (get_or c l []) - 1) + get_or weights l 0)
            ⊎ (e * (length (get_or c l []) - 1) + get_or weights l 0
            ≤ get_or weights (place r o).place 0 + get_or weights (place r o).row 0)
            → e * (length (get_or c l []) - 1) + get_or weights l 0
            ≤ get_or weights i 0 + get_or weights k 0
        go (inr m) = let u = same-place (sym is ∙ (place r o).is) in omega (arith, m, u)
        go (inl m) = absurd (lead-nonzero K L (get_or c l [])
            (All-get_or (IsPoly K) c l [] below cut.each) some
            (cut.value l a (omega (arith, below, cut.count)) inside-counts
            ∙ ap K.neg (same (length heads + (offset counts l + a)))
            ∙ sym (level-at (unit_at K.ring r) (written r t).coords l a
            (omega (arith, below, cut.count)) inside-counts)
            ∙ (written r t).light l (omega (arith, below, cut.count, blocks)) a
            (omega (arith, m))))

    pub light-rows : (i k : ℕ) → i ≤ k → k < e → (c : List (List ℕ))
        → AreCut K counts (length heads) (vectors_of K s.basis (triangle k + i)) c
        → AreLight e weights (get_or weights i 0 + get_or weights k 0) c
    light-rows i k p h c cut = cut-light (triangle k + i) (cases_lt (triangle k + i) n) c
        (λ j. row-is K L s space n v inside units only-zeros (triangle k + i) below j) cut i k p h
        refl
      where
        below : triangle k + i < length heads
        below = let a : triangle k + suc k ≤ triangle (length b) = triangle-next (length b) k
            (omega (arith, h, many)) in omega (arith, a, p, products.len)
