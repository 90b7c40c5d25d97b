-- Each plane but 0 is a polynomial in x times a normalised plane, in one way.
use Rattle.std.proofs.Common.{◌≡◌, ℕ, zero, suc, pred, ◌<◌, ◌≤◌, ◌⊎◌, inl, inr, false, List, length}
use Rattle.std.proofs.Common.{refl, sym, ◌∙◌, ap, ap₂, arith}
use Rattle.std.proofs.lemmas.Bool.{cases_lt, ltb-true, lt-ltb, eqb-true, eq-eqb}
use Rattle.ff_theory.specs.Ring.{IsCommRing}
use Rattle.ff_theory.specs.Lawful.{Domain, Field}
use Rattle.ff_theory.specs.Poly.{coeff, Poly, poly, polynomials}
use Rattle.ff_theory.specs.Division.{size, leading_coeff}
use Rattle.ff_theory.specs.Divides.{Divides}
use Rattle.ff_factors.specs.Factors.{IsPrimitive, IsNormalised, IsPrimitivePart, times_row}
use Rattle.ff_theory.proofs.Solver.{◌⊗◌, ring3, ring4, zero_mul}
use Rattle.ff_theory.proofs.Poly.{Poly_ext, Poly_path, trim-coeff, polynomial_laws}
use Rattle.ff_theory.proofs.Division.{zero_from, size_le, top_nonzero}
use Rattle.ff_theory.proofs.Evaluate.{const_map}
use Rattle.ff_theory.proofs.PolyMap.{polynomial_domain, same_false, not_same}
use Rattle.ff_theory.proofs.LowestTerms.{Reduced, den_monic, den_nonzero, lowest_terms}
use Rattle.ff_theory.proofs.LowestTerms.{reduced_unique, cancel}
use Rattle.ff_theory.proofs.ReducedForms.{nums_past}
use Rattle.ff_theory.specs.Planes.{planes, Plane}
use Rattle.ff_theory.specs.LowestTerms.{IsLowest}
use Rattle.ff_theory.proofs.ElementEuclid.{empty_plane}
use Rattle.ff_factors.proofs.Divides.{divides_all}
use Rattle.ff_factors.proofs.Primitive.{times_row-at, times_row-size, primitive_divides}

module _ (K : Field) where
  abbrev D : Domain
  D = polynomial_domain K

  PL : IsCommRing (planes K)
  PL = polynomial_laws D.ring D.laws D.tests

  -- a plane that is not 0 has a highest row
  pub plane_rows : (g : Plane K) → ¬ (g ≡ (planes K).zero) → (n : ℕ)
      × (size (polynomials K.ring) g ≡ suc n)
  plane_rows g ng = go (size D.ring g) refl
    where
      go : (n : ℕ) → size D.ring g ≡ n → (n : ℕ) × (size D.ring g ≡ suc n)
      go zero e = absurd (ng (empty_plane K g e))
      go (suc n) e = (n, e)

  -- the highest row is not 0
  pub top_row : (g : Plane K) (n : ℕ) → size (polynomials K.ring) g ≡ suc n
      → (polynomials K.ring).same (coeff (polynomials K.ring) g.coeffs n) (polynomials K.ring).zero
      ≡ false
  top_row g n e = same_false D.ring D.tests _ D.zero (top_nonzero D.ring D.laws D.tests g n e)

  -- the rows of g over the highest one, in lowest terms, are those of a normalised plane
  module _ (g : Plane K) (n : ℕ) (has : size (polynomials K.ring) g ≡ suc n)
      (form : Reduced K (suc n))
      (equal : (i : ℕ) → i < suc n → (polynomials K.ring).mul (coeff (polynomials K.ring) form.nums
      i) (coeff (polynomials K.ring) g.coeffs n)
      ≡ (polynomials K.ring).mul (coeff (polynomials K.ring) g.coeffs i) form.den) where
    abbrev top : Poly K.ring
    top = coeff D.ring g.coeffs n

    abbrev part : Plane K
    part = poly D.ring form.nums

    part_at : (i : ℕ) → coeff D.ring part.coeffs i ≡ coeff D.ring form.nums i
    unfolding poly
    part_at i = trim-coeff D.ring D.laws D.tests form.nums i

    part_past : (i : ℕ) → suc n ≤ i → coeff D.ring part.coeffs i ≡ D.zero
    part_past i l = part_at i ∙ nums_past K (suc n) form.nums i (let c : length form.nums
        ≡ suc n = eqb-true (length form.nums) (suc n) form.lowest.count in omega (arith, c, l))

    cross : (i : ℕ) → D.mul (coeff D.ring part.coeffs i) top
        ≡ D.mul (coeff D.ring g.coeffs i) form.den
    cross i = pick (cases_lt i (suc n))
      where
        pick : (i < suc n) ⊎ (suc n ≤ i) → D.mul (coeff D.ring part.coeffs i) top
            ≡ D.mul (coeff D.ring g.coeffs i) form.den
        pick (inl l) = ap (λ t. D.mul t top) (part_at i) ∙ equal i l
        pick (inr l) = ap (λ t. D.mul t top) (part_past i l) ∙ zero_mul D.ring D.laws top
            ∙ sym (ap (λ t. D.mul t form.den) (zero_from D.ring D.laws D.tests g i
            (omega (arith, has, l))) ∙ zero_mul D.ring D.laws form.den)

    part_top : coeff D.ring part.coeffs n ≡ form.den
    part_top = cancel D _ _ top (top_row g n has) (cross n ∙ D.laws.mul_comm top form.den)

    part_size : size D.ring part ≡ suc n
    part_size = go (cases_lt n (size D.ring part))
      where
        most : size D.ring part ≤ suc n
        most = size_le D.ring D.laws D.tests part (suc n) part_past

        go : (n < size D.ring part) ⊎ (size D.ring part ≤ n) → size D.ring part ≡ suc n
        go (inl l) = omega (arith, most, l)
        go (inr l) = absurd (not_same D.ring D.tests form.den D.zero (den_nonzero K (suc n) form)
            (sym part_top ∙ zero_from D.ring D.laws D.tests part n l))

    part_free : IsPrimitive K.ring part
    unfolding IsPrimitive
    part_free d all = let small : size K.ring d < 2 = ltb-true (size K.ring d) 2
        (form.lowest.lowest d (let h : Divides D.ring d (coeff D.ring part.coeffs n) = all n in
        (h.0, sym part_top ∙ h.1)) (λ i l. let h : Divides D.ring d (coeff D.ring part.coeffs i) =
        all i in (h.0, sym (part_at i) ∙ h.1))) in omega (arith, small)

    part_leading : leading_coeff K.ring (leading_coeff D.ring part) ≡ K.one
    part_leading = ap (λ k. leading_coeff K.ring (coeff D.ring part.coeffs (pred k))) part_size
        ∙ ap (leading_coeff K.ring) part_top ∙ den_monic K (suc n) form

    content : Divides D.ring form.den top
    content = primitive_divides K part part_free form.den top
        (λ i. (coeff D.ring g.coeffs i, D.laws.mul_comm top _ ∙ cross i))

    times_part : g ≡ times_row K.ring content.0 part
    times_part = Poly_ext D.ring D.laws D.tests g _
        (λ i. cancel D _ _ form.den (den_nonzero K (suc n) form) (sym (cross i)
        ∙ ap (D.mul (coeff D.ring part.coeffs i)) content.1
        ∙ ring3 D.ring D.laws (λ p c d. p ⊗ (c ⊗ d)) (λ p c d. (c ⊗ p) ⊗ d) refl
        (coeff D.ring part.coeffs i) content.0 form.den
        ∙ ap (λ t. D.mul t form.den) (sym (times_row-at K content.0 part i))))

    primitive : IsPrimitivePart K.ring g content.0 part
    primitive = record {
      product = times_part;
      normalised = record
          { primitive = part_free; leading_one = part_leading };
    }

  pub primitive_part : (g : Plane K) → ¬ (g ≡ (planes K).zero) → (c : Poly K.ring) × (s : Plane K)
      × IsPrimitivePart K.ring g c s
  primitive_part g ng = go (plane_rows g ng)
    where
      go : (n : ℕ) × (size D.ring g ≡ suc n) → (c : Poly K.ring) × (s : Plane K)
          × IsPrimitivePart K.ring g c s
      go r = let t : (t : Reduced K (suc r.0))
          × ((i : ℕ) → i < suc r.0 → D.mul (coeff D.ring t.nums i) (coeff D.ring g.coeffs r.0)
          ≡ D.mul (coeff D.ring g.coeffs i) t.den) = lowest_terms K (suc r.0)
          (coeff D.ring g.coeffs r.0) (coeff D.ring g.coeffs) (top_row g r.0 r.1) in
          ((content g r.0 r.1 t.0 t.1).0, poly D.ring t.0.nums, primitive g r.0 r.1 t.0 t.1)

  -- what code owes that brings the rows over the highest one to lowest terms
  pub primitive_of_lowest : (g : Plane K) (n : ℕ) → size (polynomials K.ring) g ≡ suc n
      → (d : Poly K.ring) (M : List (Poly K.ring)) → IsLowest K (suc n) d M
      → ((i : ℕ) → i < suc n → (polynomials K.ring).mul (coeff (polynomials K.ring) M i)
      (coeff (polynomials K.ring) g.coeffs n)
      ≡ (polynomials K.ring).mul (coeff (polynomials K.ring) g.coeffs i) d)
      → (c : Poly K.ring) × IsPrimitivePart K.ring g c (poly (polynomials K.ring) M)
  primitive_of_lowest g n has d M low equal = (
    (content g n has form equal).0,
    primitive g n has
        form equal,
  )
    where
      form : Reduced K (suc n)
      form = record { den = d; nums = M; lowest = low }

  -- a normalised plane as its highest row and all its rows in lowest terms
  kept : (n : ℕ) (s : Plane K) → size D.ring s ≡ suc n → IsNormalised K.ring s → Reduced K (suc n)
  unfolding IsPrimitive
  kept n s has normal = record {
    den = coeff D.ring s.coeffs n;
    nums = s.coeffs;
    lowest = record {
      monic = ap (λ t. K.same t K.one)
          (sym (ap (λ k. leading_coeff K.ring (coeff D.ring s.coeffs (pred k))) has)
          ∙ normal.leading_one) ∙ K.tests.same_refl K.one;
      count = eq-eqb (length s.coeffs) (suc n) has;
      lowest = λ d hd hn. lt-ltb (size K.ring d) 2 (let small : size K.ring d ≤ 1 = normal.primitive
          d (divides_all D.ring D.laws D.tests d s (λ i l. hn i (omega (arith, l, has))))
          in omega (arith, small));
    };
  }

  pub scalar_nonzero : (g : Plane K) (c : Poly K.ring) (s : Plane K) → ¬ (g ≡ (planes K).zero) → g
      ≡ times_row K.ring c s → (polynomials K.ring).same c (polynomials K.ring).zero ≡ false
  scalar_nonzero g c s ng e = same_false D.ring D.tests c D.zero
      (λ z. ng (e ∙ ap (λ t. times_row K.ring t s) z
      ∙ ap (λ t. (planes K).mul t s) (const_map D.ring D.laws D.tests).on_zero
      ∙ zero_mul (planes K) PL s))

  -- the part has the rows of the plane
  pub primitive_size : (g : Plane K) (c : Poly K.ring) (s : Plane K) → ¬ (g ≡ (planes K).zero)
      → IsPrimitivePart K.ring g c s → size (polynomials K.ring) s ≡ size (polynomials K.ring) g
  primitive_size g c s ng h = sym (times_row-size K c s (scalar_nonzero g c s ng h.product))
      ∙ ap (size D.ring) (sym h.product)

  -- the only one
  pub primitive_unique : (g : Plane K) → ¬ (g ≡ (planes K).zero)
      → (c d : Poly K.ring) (s t : Plane K) → IsPrimitivePart K.ring g c s
      → IsPrimitivePart K.ring g d t → (c ≡ d) × (s ≡ t)
  unfolding kept
  primitive_unique g ng c d s t h k = (
    cancel D c d (coeff D.ring s.coeffs n) (top_row s n s_size)
        (sym (row c s n h.product) ∙ row d t n k.product
        ∙ ap (λ (p : Plane K). D.mul d (coeff D.ring p.coeffs n)) (sym equal)),
    equal,
  )
    where
      n : ℕ
      n = (plane_rows g ng).0

      nc : D.same c D.zero ≡ false
      nc = scalar_nonzero g c s ng h.product

      nd : D.same d D.zero ≡ false
      nd = scalar_nonzero g d t ng k.product

      s_size : size D.ring s ≡ suc n
      s_size = primitive_size g c s ng h ∙ (plane_rows g ng).1

      t_size : size D.ring t ≡ suc n
      t_size = primitive_size g d t ng k ∙ (plane_rows g ng).1

      row : (a : Poly K.ring) (p : Plane K) (i : ℕ) → g ≡ times_row K.ring a p
          → coeff D.ring g.coeffs i ≡ D.mul a (coeff D.ring p.coeffs i)
      row a p i e = ap (λ (q : Plane K). coeff D.ring q.coeffs i) e ∙ times_row-at K a p i

      both : (a b : Poly K.ring) (p q : Plane K) (i : ℕ) → g ≡ times_row K.ring a p → g
          ≡ times_row K.ring b q
          → D.mul (D.mul (coeff D.ring p.coeffs i) (coeff D.ring q.coeffs n)) (D.mul a b)
          ≡ D.mul (coeff D.ring g.coeffs i) (coeff D.ring g.coeffs n)
      both a b p q i e f = ring4 D.ring D.laws (λ p q a b. (p ⊗ q) ⊗ (a ⊗ b))
          (λ p q a b. (a ⊗ p) ⊗ (b ⊗ q)) refl (coeff D.ring p.coeffs i) (coeff D.ring q.coeffs n) a
          b ∙ ap₂ D.mul (sym (row a p i e)) (sym (row b q n f))

      cross : (i : ℕ) → D.mul (coeff D.ring s.coeffs i) (coeff D.ring t.coeffs n)
          ≡ D.mul (coeff D.ring t.coeffs i) (coeff D.ring s.coeffs n)
      cross i = cancel D _ _ (D.mul c d) (D.no_divisors c d nc nd)
          (both c d s t i h.product k.product ∙ sym (both d c t s i k.product h.product)
          ∙ ap (D.mul _) (D.laws.mul_comm d c))

      equal : s ≡ t
      equal = Poly_path D.ring s t (ap (λ (r : Reduced K (suc n)). r.nums)
          (reduced_unique K (suc n) (kept n s s_size h.normalised) (kept n t t_size k.normalised)
          (λ i l. cross i)))
