-- Denominators, numerators, sums, products and inverses of elements of k(x)[y]/f, through
-- polynomials alone.
use Rattle.std.proofs.Common.{◌≡◌, ℕ, zero, suc, ◌+◌, ◌<◌, ◌≤◌, ◌⊎◌, inl, inr, false, [], ◌∷◌}
use Rattle.std.proofs.Common.{length, refl, sym, ◌∙◌, ap, ap₂, arith}
use Rattle.std.proofs.lemmas.Bool.{cases_lt, eqb-true}
use Rattle.ff_theory.specs.Ring.{RingOps, IsCommRing}
use Rattle.ff_theory.specs.Lawful.{Domain, Field}
use Rattle.ff_theory.specs.Poly.{coeff, Poly, poly, polynomials}
use Rattle.ff_theory.specs.Division.{size}
use Rattle.ff_theory.proofs.Solver.{◌⊕◌, ◌⊗◌, neg, nil, unit, ring1, ring2, ring3, ring4, mul_zero}
use Rattle.ff_theory.proofs.Solver.{zero_mul}
use Rattle.ff_theory.specs.Map.{IsMap}
use Rattle.ff_theory.proofs.Poly.{Poly_ext, trim-coeff, polynomial_laws}
use Rattle.ff_theory.proofs.Division.{const_mul_at, zero_from, size-mul}
use Rattle.ff_theory.proofs.Gcd.{no_size}
use Rattle.ff_theory.proofs.FractionField.{whole_one}
use Rattle.ff_theory.proofs.PolyMap.{polynomial_domain, not_same}
use Rattle.ff_theory.proofs.Quotient.{class_back}
use Rattle.ff_theory.proofs.QuotientUnits.{class_differ, residue_map}
use Rattle.ff_theory.proofs.Algebra.{rational, fraction_of, embed, embed_at, embed_map, embed_one}
use Rattle.ff_theory.proofs.Algebra.{embed_size, fconst, fconst_inverse, embed_row, algebra}
use Rattle.ff_theory.proofs.Algebra.{algebra_class, algebra_laws, plane_value, plane_value_map}
use Rattle.ff_theory.proofs.Algebra.{zero_if_divides}
use Rattle.ff_theory.specs.Planes.{planes, Plane, row_of, IsDivisorOver}
use Rattle.ff_theory.proofs.LowestTerms.{Reduced, den_nonzero}
use Rattle.ff_theory.proofs.ReducedForms.{over_cancel, reduced_poly, reduced_at, reduced_class}
use Rattle.ff_theory.proofs.ReducedForms.{nums_past}

module _ (K : Field) (f : Plane K) (n : ℕ) (has : size (polynomials K.ring) f ≡ suc n) where
  abbrev D : Domain
  D = polynomial_domain K

  abbrev F : Field
  F = rational K

  abbrev A : RingOps
  A = algebra K f n has

  AL : IsCommRing (algebra K f n has)
  AL = algebra_laws K f n has

  PL : IsCommRing (planes K)
  PL = polynomial_laws D.ring D.laws D.tests

  -- the value of a polynomial in x
  abbrev pub row_value : Poly K.ring → (algebra K f n has).carrier
  row_value h = plane_value K f n has (row_of K.ring h)

  abbrev pub value : Plane K → (algebra K f n has).carrier
  value N = plane_value K f n has N

  V : IsMap (planes K) (algebra K f n has) (plane_value K f n has)
  V = plane_value_map K f n has

  -- a kept form times its denominator is its numerators
  pub reduced_clear : (t : Reduced K n) → (algebra K f n has).mul (row_value t.den)
      (reduced_class K n t) ≡ value (poly (polynomials K.ring) t.nums)
  unfolding plane_value reduced_class poly
  reduced_clear t = ap (A.mul (row_value t.den))
      (sym (class_back F (embed K f) n (embed_size K f
      ∙ has) (reduced_class K n t)))
      ∙ sym ((residue_map F (embed K f) n (embed_size K f ∙ has)).on_mul
      (embed K (row_of K.ring t.den)) (reduced_poly K n t))
      ∙ ap (algebra_class K f n has) (Poly_ext F.ring F.laws F.tests _ _
      (λ i. ap (λ (p : Poly F.ring). coeff F.ring
      ((polynomials F.ring).mul p (reduced_poly K n t)).coeffs i) (embed_row K t.den)
      ∙ const_mul_at F.ring F.laws F.tests (fraction_of K t.den) (reduced_poly K n t) i
      ∙ ap (F.mul (fraction_of K t.den)) (reduced_at K n t i)
      ∙ over_cancel K t.den (den_nonzero K n t) (coeff D.ring t.nums i)
      ∙ sym (embed_at K (poly D.ring t.nums) i
      ∙ ap (fraction_of K) (trim-coeff D.ring D.laws D.tests t.nums i))))

  -- a polynomial in x that is not zero has an inverse
  pub row_unit : (h : Poly K.ring) → (polynomials K.ring).same h (polynomials K.ring).zero ≡ false
      → (algebra K f n has).mul (algebra_class K f n has
      (fconst K ((rational K).inverse (fraction_of K h)))) (row_value h) ≡ (algebra K f n has).one
  unfolding plane_value
  row_unit h nh = sym ((residue_map F (embed K f) n (embed_size K f ∙ has)).on_mul
      (fconst K (F.inverse (fraction_of K h))) (embed K (row_of K.ring h)))
      ∙ ap (algebra_class K f n has)
      (ap ((polynomials F.ring).mul (fconst K (F.inverse (fraction_of K h)))) (embed_row K h)
      ∙ fconst_inverse K f n has (fraction_of K h) (λ e. not_same D.ring D.tests h D.zero nh
      (whole_one D h D.zero e)))
      ∙ (residue_map F (embed K f) n (embed_size K f ∙ has)).on_one

  pub row_cancel : (h : Poly K.ring) → (polynomials K.ring).same h (polynomials K.ring).zero ≡ false
      → (a b : (algebra K f n has).carrier) → (algebra K f n has).mul (row_value h) a
      ≡ (algebra K f n has).mul (row_value h) b → a ≡ b
  row_cancel h nh a b e = sym (back a) ∙ ap (A.mul i) e ∙ back b
    where
      i : A.carrier
      i = algebra_class K f n has (fconst K (F.inverse (fraction_of K h)))

      back : (a : A.carrier) → A.mul i (A.mul (row_value h) a) ≡ a
      back a = sym (AL.mul_assoc i (row_value h) a) ∙ ap (λ t. A.mul t a) (row_unit h nh)
          ∙ ring1 A AL (λ a. unit ⊗ a) (λ a. a) refl a

  row_mul : (a b : Poly K.ring) → row_value (D.mul a b) ≡ A.mul (row_value a) (row_value b)
  unfolding poly
  row_mul a b = ap value (Poly_ext D.ring D.laws D.tests (row_of K.ring (D.mul a b))
      ((planes K).mul (row_of K.ring a) (row_of K.ring b)) (λ i. trim-coeff D.ring D.laws D.tests
      (D.mul a b ∷ []) i ∙ go i ∙ sym (const_mul_at D.ring D.laws D.tests a (row_of K.ring b) i
      ∙ ap (D.mul a) (trim-coeff D.ring D.laws D.tests (b ∷ []) i))))
      ∙ V.on_mul (row_of K.ring a) (row_of K.ring b)
    where
      go : (i : ℕ) → coeff D.ring (D.mul a b ∷ []) i ≡ D.mul a (coeff D.ring (b ∷ []) i)
      go zero = refl
      go (suc i) = sym (mul_zero D.ring D.laws a)

  -- what from_parts answers: a pseudo-remainder of N by f, in lowest terms, over h
  pub from_parts_value : (N : Plane K) (h c : Poly K.ring) (r : Plane K) (t : Reduced K n)
      → (polynomials K.ring).same h (polynomials K.ring).zero ≡ false
      → (polynomials K.ring).same c (polynomials K.ring).zero ≡ false
      → value r ≡ (algebra K f n has).mul (row_value c) (value N) → size (polynomials K.ring) r ≤ n
      → ((i : ℕ) → i < n → (polynomials K.ring).mul (coeff (polynomials K.ring) t.nums i)
      ((polynomials K.ring).mul c h)
      ≡ (polynomials K.ring).mul (coeff (polynomials K.ring) r.coeffs i) t.den)
      → (algebra K f n has).mul (row_value h) (reduced_class K n t) ≡ value N
  unfolding poly
  from_parts_value N h c r t nh nc r_value small lowest = row_cancel c nc
      (A.mul (row_value h) (reduced_class K n t)) (value N)
      (sym (AL.mul_assoc (row_value c) (row_value h) (reduced_class K n t))
      ∙ ap (λ x. A.mul x (reduced_class K n t)) (sym (row_mul c h)) ∙ over_r ∙ r_value)
    where
      both : (planes K).mul (row_of K.ring (D.mul c h)) (poly D.ring t.nums)
          ≡ (planes K).mul (row_of K.ring t.den) r
      both = Poly_ext D.ring D.laws D.tests _ _ (λ i. const_mul_at D.ring D.laws D.tests (D.mul c h)
          (poly D.ring t.nums) i ∙ ap (D.mul (D.mul c h)) (trim-coeff D.ring D.laws D.tests t.nums
          i) ∙ D.laws.mul_comm (D.mul c h) (coeff D.ring t.nums i) ∙ go i (cases_lt i n)
          ∙ D.laws.mul_comm (coeff D.ring r.coeffs i) t.den
          ∙ sym (const_mul_at D.ring D.laws D.tests t.den r i))
        where
          go : (i : ℕ) → (i < n) ⊎ (n ≤ i) → D.mul (coeff D.ring t.nums i) (D.mul c h)
              ≡ D.mul (coeff D.ring r.coeffs i) t.den
          go i (inl l) = lowest i l
          go i (inr l) = let k : length t.nums ≡ n = eqb-true (length t.nums) n t.lowest.count in
              ap (λ x. D.mul x (D.mul c h)) (nums_past K n t.nums i (omega (arith, k)))
              ∙ ring2 D.ring D.laws (λ a b. nil ⊗ a) (λ a b. nil ⊗ b) refl (D.mul c h) t.den
              ∙ ap (λ x. D.mul x t.den) (sym (zero_from D.ring D.laws D.tests r i
              (omega (arith, small))))

      over_r : A.mul (row_value (D.mul c h)) (reduced_class K n t) ≡ value r
      over_r = row_cancel t.den (den_nonzero K n t) _ _ (ring3 A AL (λ d e t. d ⊗ (e ⊗ t))
          (λ d e t. e ⊗ (d ⊗ t)) refl (row_value t.den) (row_value (D.mul c h))
          (reduced_class K n t)
          ∙ ap (A.mul (row_value (D.mul c h))) (reduced_clear t)
          ∙ sym (V.on_mul (row_of K.ring (D.mul c h)) (poly D.ring t.nums)) ∙ ap value both
          ∙ V.on_mul (row_of K.ring t.den) r)

  -- the product of two kept forms
  pub mul_value : (s t : Reduced K n) (r : (algebra K f n has).carrier)
      → (algebra K f n has).mul (row_value ((polynomials K.ring).mul s.den t.den)) r
      ≡ value ((planes K).mul (poly (polynomials K.ring) s.nums) (poly (polynomials K.ring) t.nums))
      → r ≡ (algebra K f n has).mul (reduced_class K n s) (reduced_class K n t)
  mul_value s t r e = row_cancel (D.mul s.den t.den) (D.no_divisors s.den t.den (den_nonzero K n s)
      (den_nonzero K n t)) r (A.mul (reduced_class K n s) (reduced_class K n t)) (e
      ∙ V.on_mul (poly D.ring s.nums) (poly D.ring t.nums)
      ∙ ap₂ A.mul (sym (reduced_clear s)) (sym (reduced_clear t))
      ∙ ring4 A AL (λ d s e t. (d ⊗ s) ⊗ (e ⊗ t)) (λ d s e t. (d ⊗ e) ⊗ (s ⊗ t)) refl
      (row_value s.den) (reduced_class K n s) (row_value t.den) (reduced_class K n t)
      ∙ ap (λ x. A.mul x (A.mul (reduced_class K n s) (reduced_class K n t)))
      (sym (row_mul s.den t.den)))

  -- the sum of two kept forms
  pub add_value : (s t : Reduced K n) (r : (algebra K f n has).carrier)
      → (algebra K f n has).mul (row_value ((polynomials K.ring).mul s.den t.den)) r
      ≡ value ((planes K).add ((planes K).mul (row_of K.ring t.den)
      (poly (polynomials K.ring) s.nums)) ((planes K).mul (row_of K.ring s.den)
      (poly (polynomials K.ring) t.nums)))
      → r ≡ (algebra K f n has).add (reduced_class K n s) (reduced_class K n t)
  add_value s t r e = row_cancel (D.mul s.den t.den) (D.no_divisors s.den t.den (den_nonzero K n s)
      (den_nonzero K n t)) r (A.add (reduced_class K n s) (reduced_class K n t)) (e ∙ V.on_add _ _
      ∙ ap₂ A.add (V.on_mul (row_of K.ring t.den) (poly D.ring s.nums)
      ∙ ap (A.mul (row_value t.den)) (sym (reduced_clear s)))
      (V.on_mul (row_of K.ring s.den) (poly D.ring t.nums)
      ∙ ap (A.mul (row_value s.den)) (sym (reduced_clear t)))
      ∙ ring4 A AL (λ d s e t. e ⊗ (d ⊗ s) ⊕ d ⊗ (e ⊗ t)) (λ d s e t. (d ⊗ e) ⊗ (s ⊕ t)) refl
      (row_value s.den) (reduced_class K n s) (row_value t.den) (reduced_class K n t)
      ∙ ap (λ x. A.mul x (A.add (reduced_class K n s) (reduced_class K n t)))
      (sym (row_mul s.den t.den)))

  -- the inverse: f divides u * num - c over k(x), and r is den * u / c
  pub inverse_value : (a : Reduced K n) (u : Plane K) (c : Poly K.ring)
      (r : (algebra K f n has).carrier) → (polynomials K.ring).same c (polynomials K.ring).zero
      ≡ false
      → IsDivisorOver K.ring f ((planes K).add ((planes K).mul u (poly (polynomials K.ring) a.nums))
      ((planes K).neg (row_of K.ring c)))
      → (algebra K f n has).mul (row_value c) r ≡ value ((planes K).mul (row_of K.ring a.den) u)
      → (algebra K f n has).mul r (reduced_class K n a) ≡ (algebra K f n has).one
  inverse_value a u c r nc d e = row_cancel c nc (A.mul r (reduced_class K n a)) A.one
      (sym (AL.mul_assoc (row_value c) r (reduced_class K n a))
      ∙ ap (λ x. A.mul x (reduced_class K n a)) (e ∙ V.on_mul (row_of K.ring a.den) u)
      ∙ ring3 A AL (λ d u a. (d ⊗ u) ⊗ a) (λ d u a. u ⊗ (d ⊗ a)) refl (row_value a.den) (value u)
      (reduced_class K n a) ∙ ap (A.mul (value u)) (reduced_clear a) ∙ is_c
      ∙ sym (AL.mul_one (row_value c)))
    where
      is_c : A.mul (value u) (value (poly D.ring a.nums)) ≡ row_value c
      is_c = ring2 A AL (λ w c. w) (λ w c. (w ⊕ neg c) ⊕ c) refl
          (A.mul (value u) (value (poly D.ring a.nums))) (row_value c)
          ∙ ap (λ x. A.add x (row_value c))
          (sym (V.on_add ((planes K).mul u (poly D.ring a.nums)) ((planes K).neg (row_of K.ring c))
          ∙ ap₂ A.add (V.on_mul u (poly D.ring a.nums)) (V.on_neg (row_of K.ring c)))
          ∙ zero_if_divides K f n has _ d)
          ∙ ring1 A AL (λ c. nil ⊕ c) (λ c. c) refl (row_value c)

  -- a divisor of zero: f divides u * num over k(x)
  pub divisor_value : (a : Reduced K n) (u : Plane K)
      → IsDivisorOver K.ring f ((planes K).mul u (poly (polynomials K.ring) a.nums))
      → (algebra K f n has).mul (reduced_class K n a) (value u) ≡ (algebra K f n has).zero
  divisor_value a u d = row_cancel a.den (den_nonzero K n a) (A.mul (reduced_class K n a) (value u))
      A.zero (sym (AL.mul_assoc (row_value a.den) (reduced_class K n a) (value u))
      ∙ ap (λ x. A.mul x (value u)) (reduced_clear a) ∙ AL.mul_comm (value (poly D.ring a.nums))
      (value u)
      ∙ sym (V.on_mul u (poly D.ring a.nums)) ∙ zero_if_divides K f n has _ d
      ∙ sym (mul_zero A AL (row_value a.den)))

  -- a plane of low degree that is not zero has a value that is not zero
  pub low_nonzero : (N : Plane K) → size (polynomials K.ring) N ≤ n → ¬ (N ≡ (planes K).zero)
      → ¬ (value N ≡ (algebra K f n has).zero)
  unfolding plane_value
  low_nonzero N small nN e = go (size F.ring w.0) refl
    where
      w : (u : Poly F.ring) × (embed K N ≡ (polynomials F.ring).add (polynomials F.ring).zero
          ((polynomials F.ring).mul u (embed K f)))
      w = class_differ F (embed K f) n (embed_size K f ∙ has) (embed K N) (polynomials F.ring).zero
          (e ∙ sym (residue_map F (embed K f) n (embed_size K f ∙ has)).on_zero)

      FL : IsCommRing (polynomials F.ring)
      FL = polynomial_laws F.ring F.laws F.tests

      is : embed K N ≡ (polynomials F.ring).mul w.0 (embed K f)
      is = w.1 ∙ ring2 (polynomials F.ring) FL (λ u f. nil ⊕ u ⊗ f) (λ u f. u ⊗ f) refl w.0
          (embed K f)

      go : (k : ℕ) → size F.ring w.0 ≡ k → ⊥
      go zero h = nN (embed_one K N (planes K).zero (is
          ∙ ap (λ t. (polynomials F.ring).mul t (embed K f))
          (no_size F w.0 h)
          ∙ zero_mul (polynomials F.ring) FL (embed K f) ∙ sym (embed_map K).on_zero))
      go (suc k) h = let x : size F.ring (embed K N) ≡ suc (k + n) = ap (size F.ring) is
          ∙ size-mul F w.0 (embed K f) k n h
          (embed_size K f ∙ has) in
          let y : size F.ring (embed K N) ≡ size D.ring N = embed_size K N in absurd
          (omega (arith, x, y, small))
