-- Euclid's loop in E(f): pairs of planes r and s with s * a = r, until r is a polynomial in x.
use Rattle.std.proofs.Common.{◌≡◌, ℕ, zero, suc, ◌+◌, ◌<◌, ◌≤◌, false, List, [], ◌∷◌, length, refl}
use Rattle.std.proofs.Common.{sym, ◌∙◌, ap, ap₂, arith}
use Rattle.ff_theory.specs.Ring.{RingOps, IsCommRing}
use Rattle.ff_theory.specs.Lawful.{Domain, Field}
use Rattle.ff_theory.specs.Poly.{Poly, poly, polynomials}
use Rattle.ff_theory.specs.Division.{size}
use Rattle.ff_theory.proofs.Solver.{◌⊕◌, ◌⊗◌, neg, nil, unit, ring1, ring2, ring3, ring4, ring6}
use Rattle.ff_theory.proofs.Solver.{mul_zero}
use Rattle.ff_theory.specs.Map.{IsMap}
use Rattle.ff_theory.proofs.Poly.{Poly_path, polynomial_laws}
use Rattle.ff_theory.proofs.Division.{size-mul}
use Rattle.ff_theory.proofs.Evaluate.{const_map}
use Rattle.ff_theory.proofs.PolyMap.{polynomial_domain, same_false, not_same}
use Rattle.ff_theory.proofs.Algebra.{rational, embed, embed_map, embed_size}
use Rattle.ff_theory.specs.Planes.{planes, Plane, row_of}
use Rattle.ff_theory.specs.Algebra.{proper, degree, algebra_of, value_of, element, over_of}
use Rattle.ff_theory.proofs.Proper.{proper_is, proper_size}
use Rattle.ff_theory.proofs.Proper.{row_size}
use Rattle.ff_theory.proofs.Element.{low_value, algebra_is_ring, value_map, element_clear, over_one}
use Rattle.ff_theory.proofs.Element.{cancel_row, equation}

module _ (K : Field) where
  abbrev D : Domain
  D = polynomial_domain K

  abbrev P : RingOps
  P = planes K

  PL : IsCommRing (planes K)
  PL = polynomial_laws D.ring D.laws D.tests

  row_map : IsMap (polynomials K.ring) (planes K) (row_of K.ring)
  row_map = const_map D.ring D.laws D.tests

  -- sizes of planes
  pub plane_size-mul : (p q : Plane K) (m n : ℕ) → size (polynomials K.ring) p ≡ suc m
      → size (polynomials K.ring) q ≡ suc n → size (polynomials K.ring) ((planes K).mul p q)
      ≡ suc (m + n)
  plane_size-mul p q m n hp hq = let F : Field = rational K in
      sym (embed_size K (P.mul p q)) ∙ ap (size (rational K).ring) ((embed_map K).on_mul p q)
      ∙ size-mul (rational K) (embed K p) (embed K q) m n (embed_size K p ∙ hp)
      (embed_size K q ∙ hq)

  pub empty_plane : (p : Plane K) → size (polynomials K.ring) p ≡ 0 → p ≡ (planes K).zero
  unfolding poly
  empty_plane p h = Poly_path D.ring p P.zero (none p.coeffs h)
    where
      none : (xs : List (Poly K.ring)) → length xs ≡ 0 → xs ≡ []
      none [] h = refl
      none (c ∷ xs) h = absurd (omega arith)

  pub zero_plane_size : size (polynomials K.ring) (planes K).zero ≡ 0
  unfolding poly
  zero_plane_size = refl

  module _ (f : Plane K) where
    abbrev A : RingOps
    A = algebra_of K f

    AL : IsCommRing (algebra_of K f)
    AL = algebra_is_ring K f

    V : IsMap (planes K) (algebra_of K f) (value_of K f)
    V = value_map K f

    -- g * new is e * old + q * by
    pub record IsCombination (g e : Poly K.ring) (q new old by : Plane K) : Type 0 where
      pub equal : (planes K).mul (row_of K.ring g) new
          ≡ (planes K).add ((planes K).mul (row_of K.ring e) old) ((planes K).mul q by)

    -- a step of reduction by f
    pub reduced-step : (N r s h : Plane K) (c e : Poly K.ring) → ¬ (size (polynomials K.ring) f ≡ 0)
        → value_of K f r ≡ (algebra_of K f).mul (value_of K f (row_of K.ring c)) (value_of K f N)
        → s ≡ (planes K).add ((planes K).mul (row_of K.ring e) r) ((planes K).mul h f)
        → value_of K f s ≡ (algebra_of K f).mul
        (value_of K f (row_of K.ring ((polynomials K.ring).mul e c))) (value_of K f N)
    reduced-step N r s h c e nf value is = ap (value_of K f) is
        ∙ V.on_add (P.mul (row_of K.ring e) r) (P.mul h f)
        ∙ ap₂ A.add (V.on_mul (row_of K.ring e) r ∙ ap (A.mul (value_of K f (row_of K.ring e)))
        value) (V.on_mul h f ∙ ap (A.mul (value_of K f h)) (equation K f nf))
        ∙ ring4 A AL (λ e c n h. e ⊗ (c ⊗ n) ⊕ h ⊗ nil) (λ e c n h. (e ⊗ c) ⊗ n) refl
        (value_of K f (row_of K.ring e)) (value_of K f (row_of K.ring c)) (value_of K f N)
        (value_of K f h)
        ∙ ap (λ t. A.mul t (value_of K f N)) (sym (ap (value_of K f) (row_map.on_mul e c)
        ∙ V.on_mul (row_of K.ring e) (row_of K.ring c)))

    -- a step of Euclid's loop keeps s * a = r
    pub combination-value : (a : (algebra_of K f).carrier) (r0 s0 r1 s1 r2 s2 q : Plane K)
        (g e : Poly K.ring) → (polynomials K.ring).same g (polynomials K.ring).zero ≡ false
        → IsCombination g e q r2 r0 r1 → IsCombination g e q s2 s0 s1
        → (algebra_of K f).mul (value_of K f s0) a ≡ value_of K f r0
        → (algebra_of K f).mul (value_of K f s1) a ≡ value_of K f r1
        → (algebra_of K f).mul (value_of K f s2) a ≡ value_of K f r2
    combination-value a r0 s0 r1 s1 r2 s2 q g e ng hr hs h0 h1 = cancel_row K f g ng _ _ (
        sym (AL.mul_assoc (value_of K f (row_of K.ring g)) (value_of K f s2) a)
        ∙ ap (λ t. A.mul t a) (sym (V.on_mul (row_of K.ring g) s2) ∙ ap (value_of K f) hs.equal
        ∙ V.on_add (P.mul (row_of K.ring e) s0) (P.mul q s1)
        ∙ ap₂ A.add (V.on_mul (row_of K.ring e) s0) (V.on_mul q s1))
        ∙ ring6 A AL (λ e s q t a z. (e ⊗ s ⊕ q ⊗ t) ⊗ a) (λ e s q t a z. e ⊗ (s ⊗ a) ⊕ q ⊗ (t ⊗ a))
        refl (value_of K f (row_of K.ring e)) (value_of K f s0) (value_of K f q) (value_of K f s1) a
        a
        ∙ ap₂ (λ s t. A.add (A.mul (value_of K f (row_of K.ring e)) s) (A.mul (value_of K f q) t))
        h0 h1
        ∙ ap₂ A.add (sym (V.on_mul (row_of K.ring e) r0)) (sym (V.on_mul q r1))
        ∙ sym (V.on_add (P.mul (row_of K.ring e) r0) (P.mul q r1))
        ∙ ap (value_of K f) (sym hr.equal) ∙ V.on_mul (row_of K.ring g) r2)

    -- some multiples of s1 * r0 - s0 * r1 and of f agree
    pub record IsCrossed (r0 s0 r1 s1 : Plane K) : Type 0 where
      pub left : Poly K.ring
      pub left_nonzero : (polynomials K.ring).same left (polynomials K.ring).zero ≡ false
      pub right : Poly K.ring
      pub right_nonzero : (polynomials K.ring).same right (polynomials K.ring).zero ≡ false
      pub cross : (planes K).mul (row_of K.ring left) ((planes K).add ((planes K).mul s1 r0)
          ((planes K).neg ((planes K).mul s0 r1))) ≡ (planes K).mul (row_of K.ring right) f

    pub crossed-start : (N : Plane K) → IsCrossed f (planes K).zero N (planes K).one
    crossed-start N = record {
      left = D.one;
      left_nonzero = D.proper;
      right = D.one;
      right_nonzero = D.proper;
      cross = ring3 P PL (λ o f n. o ⊗ (unit ⊗ f ⊕ neg (nil ⊗ n))) (λ o f n. o ⊗ f) refl
          (row_of K.ring D.one) f N;
    }

    neg_nonzero : (a : Poly K.ring) → D.same a D.zero ≡ false → D.same (D.neg a) D.zero ≡ false
    neg_nonzero a na = same_false D.ring D.tests (D.neg a) D.zero
        (λ h. not_same D.ring D.tests a D.zero na (ring1 D.ring D.laws (λ a. a) (λ a. neg (neg a))
        refl a ∙ ap D.neg h ∙ ring1 D.ring D.laws (λ a. neg nil) (λ a. nil) refl a))

    pub crossed-step : (r0 s0 r1 s1 r2 s2 q : Plane K) (g e : Poly K.ring)
        → (polynomials K.ring).same g (polynomials K.ring).zero ≡ false
        → (polynomials K.ring).same e (polynomials K.ring).zero ≡ false
        → IsCombination g e q r2 r0 r1 → IsCombination g e q s2 s0 s1 → IsCrossed r0 s0 r1 s1
        → IsCrossed r1 s1 r2 s2
    crossed-step r0 s0 r1 s1 r2 s2 q g e ng ne hr hs before = record {
      left = D.mul before.left g;
      left_nonzero = D.no_divisors before.left g before.left_nonzero ng;
      right = D.neg (D.mul e before.right);
      right_nonzero = neg_nonzero (D.mul e before.right)
          (D.no_divisors e before.right ne before.right_nonzero);
      cross = ap (λ t. P.mul t (P.add (P.mul s2 r1) (P.neg (P.mul s1 r2))))
          (row_map.on_mul before.left g)
          ∙ ring6 P PL (λ b g s2 r1 s1 r2. (b ⊗ g) ⊗ (s2 ⊗ r1 ⊕ neg (s1 ⊗ r2)))
          (λ b g s2 r1 s1 r2. b ⊗ ((g ⊗ s2) ⊗ r1 ⊕ neg (s1 ⊗ (g ⊗ r2)))) refl
          (row_of K.ring before.left) (row_of K.ring g) s2 r1 s1 r2
          ∙ ap₂ (λ s r. P.mul (row_of K.ring before.left) (P.add (P.mul s r1) (P.neg (P.mul s1 r))))
          hs.equal hr.equal
          ∙ ap (P.mul (row_of K.ring before.left))
          (ring6 P PL (λ e s0 q s1 r1 r0. (e ⊗ s0 ⊕ q ⊗ s1) ⊗ r1 ⊕ neg (s1 ⊗ (e ⊗ r0 ⊕ q ⊗ r1)))
          (λ e s0 q s1 r1 r0. neg (e ⊗ (s1 ⊗ r0 ⊕ neg (s0 ⊗ r1)))) refl (row_of K.ring e) s0 q s1 r1
          r0)
          ∙ ring3 P PL (λ b e t. b ⊗ neg (e ⊗ t)) (λ b e t. neg (e ⊗ (b ⊗ t))) refl
          (row_of K.ring before.left) (row_of K.ring e) (P.add (P.mul s1 r0) (P.neg (P.mul s0 r1)))
          ∙ ap (λ t. P.neg (P.mul (row_of K.ring e) t)) before.cross
          ∙ ring3 P PL (λ e c f. neg (e ⊗ (c ⊗ f))) (λ e c f. neg (e ⊗ c) ⊗ f) refl
          (row_of K.ring e) (row_of K.ring before.right) f
          ∙ ap (λ t. P.mul t f) (sym (row_map.on_neg (D.mul e before.right)
          ∙ ap P.neg (row_map.on_mul e before.right)));
    }

    -- where r1 is zero, s1 is a plane of low degree that is not zero
    pub crossed-end : (r0 s0 s1 : Plane K) (m n : ℕ) → size (polynomials K.ring) f ≡ suc n
        → size (polynomials K.ring) r0 ≡ suc (suc m) → IsCrossed r0 s0 (planes K).zero s1
        → (size (polynomials K.ring) s1 ≤ n) × (¬ (s1 ≡ (planes K).zero))
    crossed-end r0 s0 s1 m n hf hr crossed = (
      go (size D.ring s1) refl,
      λ h. absurd
          (let none : size D.ring s1 ≡ 0 = ap (size D.ring) h ∙ zero_plane_size in let e : 0
          ≡ suc n = sym zero_plane_size ∙ ap (size D.ring) (sym (product-zero h))
          ∙ whole in omega (arith, e)),
    )
      where
        product : P.mul (row_of K.ring crossed.left) (P.mul s1 r0)
            ≡ P.mul (row_of K.ring crossed.right) f
        product = ap (P.mul (row_of K.ring crossed.left))
            (ring3 P PL (λ s r t. s ⊗ r) (λ s r t. s ⊗ r ⊕ neg (t ⊗ nil)) refl s1 r0 s0)
            ∙ crossed.cross

        whole : size D.ring (P.mul (row_of K.ring crossed.left) (P.mul s1 r0)) ≡ suc n
        whole = ap (size D.ring) product ∙ plane_size-mul (row_of K.ring crossed.right) f 0 n
            (row_size K crossed.right crossed.right_nonzero) hf
            ∙ (let e : suc (0 + n) ≡ suc n = omega arith in e)

        product-zero : s1 ≡ P.zero → P.mul (row_of K.ring crossed.left) (P.mul s1 r0) ≡ P.zero
        product-zero h = ap (λ t. P.mul (row_of K.ring crossed.left) (P.mul t r0)) h
            ∙ ring2 P PL (λ b r. b ⊗ (nil ⊗ r)) (λ b r. nil) refl (row_of K.ring crossed.left) r0

        go : (k : ℕ) → size D.ring s1 ≡ k → size D.ring s1 ≤ n
        go zero h = omega arith
        go (suc j) h = let e : size D.ring (P.mul (row_of K.ring crossed.left) (P.mul s1 r0))
            ≡ suc (0 + (j + suc m)) = plane_size-mul (row_of K.ring crossed.left) (P.mul s1 r0) 0
            (j + suc m) (row_size K crossed.left crossed.left_nonzero)
            (plane_size-mul s1 r0 j (suc m) h hr) in
            omega (arith, e, whole)

    -- a plane of low degree that is not zero has a value that is not zero
    pub value-nonzero : (N : Plane K) → ¬ (size (polynomials K.ring) f ≡ 0)
        → size (polynomials K.ring) N < size (polynomials K.ring) f → ¬ (N ≡ (planes K).zero)
        → ¬ (value_of K f N ≡ (algebra_of K f).zero)
    value-nonzero N nf small = low_value K f N (let e : size D.ring (proper K f)
        ≡ size D.ring f = ap (size D.ring) (proper_is K f nf) in let k : size D.ring (proper K f)
        ≡ suc (degree K f) = proper_size K f in omega (arith, e, k, small))

    pub one-nonzero : ¬ (size (polynomials K.ring) f ≡ 0) → 1 < size (polynomials K.ring) f
        → ¬ ((algebra_of K f).one ≡ (algebra_of K f).zero)
    one-nonzero nf big h = value-nonzero P.one nf (let e : size D.ring P.one
        ≡ 1 = row_size K D.one D.proper in omega (arith, e, big)) (λ e. let k : size D.ring P.one
        ≡ 1 = row_size K D.one D.proper in let z : size D.ring P.one ≡ 0 = ap (size D.ring) e
        ∙ zero_plane_size in absurd (omega (arith, k, z))) (V.on_one ∙ h)

    -- over the polynomial 1
    pub over-one : (N : Plane K) → over_of K f N (polynomials K.ring).one ≡ value_of K f N
    over-one N = sym (over_one K f N D.one (value_of K f N) D.proper
        (ap (λ t. A.mul t (value_of K f N)) (ap (value_of K f) row_map.on_one ∙ V.on_one)
        ∙ ring1 A AL (λ v. unit ⊗ v) (λ v. v) refl (value_of K f N)))

    -- a divisor of zero
    pub divisor-exact : (d : Poly K.ring) (M : List (Poly K.ring)) (s : Plane K)
        → (polynomials K.ring).same d (polynomials K.ring).zero ≡ false
        → (algebra_of K f).mul (value_of K f s) (value_of K f (poly (polynomials K.ring) M))
        ≡ (algebra_of K f).zero → (algebra_of K f).mul (element K f d M) (value_of K f s)
        ≡ (algebra_of K f).zero
    divisor-exact d M s nd e = cancel_row K f d nd _ _
        (sym (AL.mul_assoc (value_of K f (row_of K.ring d)) (element K f d M) (value_of K f s))
        ∙ ap (λ t. A.mul t (value_of K f s)) (element_clear K f d M nd)
        ∙ AL.mul_comm (value_of K f (poly (polynomials K.ring) M)) (value_of K f s) ∙ e
        ∙ sym (mul_zero A AL (value_of K f (row_of K.ring d))))

-- a divisor of zero has no inverse
pub divisor-no_inverse : (R : RingOps) (laws : IsCommRing R) (a u r : R.carrier) → ¬ (u ≡ R.zero)
    → R.mul a u ≡ R.zero → ¬ (R.mul r a ≡ R.one)
divisor-no_inverse R laws a u r nu h e = nu (ring1 R laws (λ u. u) (λ u. unit ⊗ u) refl u
    ∙ ap (λ t. R.mul t u) (sym e) ∙ laws.mul_assoc r a u ∙ ap (R.mul r) h ∙ mul_zero R laws r)
