-- Planes whose rows have no common factor: what divides all rows of a multiple of such a plane, and
-- exact factors.
use Rattle.std.proofs.Common.{◌≡◌, ℕ, zero, suc, pred, ◌+◌, ◌≤◌, cond, false, [], ◌∷◌, length, refl}
use Rattle.std.proofs.Common.{sym, ◌∙◌, ap, subst, arith}
use Rattle.ff_theory.specs.Ring.{RingOps, IsCommRing}
use Rattle.ff_theory.specs.Lawful.{Domain, Field}
use Rattle.ff_theory.specs.Poly.{coeff, put, Poly, poly, polynomials}
use Rattle.ff_theory.specs.Division.{size, leading_coeff}
use Rattle.ff_theory.specs.Divides.{Divides}
use Rattle.ff_factors.specs.Factors.{DividesAll, IsPrimitive, times_row}
use Rattle.ff_theory.proofs.Solver.{◌⊗◌, ring3, mul_zero, zero_mul}
use Rattle.ff_theory.proofs.Poly.{Poly_ext, polynomial_laws}
use Rattle.ff_theory.proofs.Division.{const_mul_at, x}
use Rattle.ff_theory.proofs.Gcd.{no_size}
use Rattle.ff_theory.proofs.PolyMap.{polynomial_domain, same_false}
use Rattle.ff_theory.proofs.LowestTerms.{ListGcd, list_gcd, cancel}
use Rattle.ff_theory.proofs.QuotientUnits.{unit_poly}
use Rattle.ff_theory.specs.Planes.{planes, Plane}
use Rattle.ff_theory.proofs.Proper.{row_size}
use Rattle.ff_theory.proofs.ElementEuclid.{plane_size-mul, empty_plane, zero_plane_size}
use Rattle.ff_theory.proofs.Divides.{divides_zero, divides_left, divides_trans}
use Rattle.ff_factors.proofs.Divides.{divides_all}
use Rattle.ff_factors.proofs.Gauss.{one_divisor, gauss}

module _ (K : Field) where
  abbrev D : Domain
  D = polynomial_domain K

  abbrev P : RingOps
  P = planes K

  PL : IsCommRing (planes K)
  PL = polynomial_laws D.ring D.laws D.tests

  -- row i of a * g
  pub times_row-at : (a : Poly K.ring) (g : Plane K) (i : ℕ)
      → coeff (polynomials K.ring) (times_row K.ring a g).coeffs i
      ≡ (polynomials K.ring).mul a (coeff (polynomials K.ring) g.coeffs i)
  times_row-at a g i = const_mul_at D.ring D.laws D.tests a g i

  -- and its degree in y
  pub times_row-size : (a : Poly K.ring) (g : Plane K)
      → (polynomials K.ring).same a (polynomials K.ring).zero ≡ false
      → size (polynomials K.ring) (times_row K.ring a g) ≡ size (polynomials K.ring) g
  times_row-size a g na = go (size D.ring g) refl
    where
      go : (m : ℕ) → size D.ring g ≡ m → size D.ring (times_row K.ring a g) ≡ size D.ring g
      go zero h = ap (λ t. size D.ring (times_row K.ring a t)) (empty_plane K g h)
          ∙ ap (size D.ring) (mul_zero P PL (poly D.ring (a ∷ []))) ∙ zero_plane_size K ∙ sym h
      go (suc m) h = let e : size D.ring (times_row K.ring a g)
          ≡ suc (0 + m) = plane_size-mul K (poly D.ring (a ∷ [])) g 0 m (row_size K a na) h in omega
          (arith, e, h)

  x_size : size K.ring (x K.ring K.laws K.tests) ≡ 2
  unfolding poly
  x_size = ap (λ b. length (put K.ring K.zero (cond b [] (K.one ∷ []))))
      (same_false K.ring K.tests K.one K.zero K.is_field.one_not_zero)

  -- what divides each row of w * g divides w
  pub primitive_divides : (g : Plane K) → IsPrimitive K.ring g → (a w : Poly K.ring)
      → ((i : ℕ) → Divides (polynomials K.ring) a
      ((polynomials K.ring).mul w (coeff (polynomials K.ring) g.coeffs i)))
      → Divides (polynomials K.ring) a w
  unfolding IsPrimitive
  primitive_divides g free a w all = go (size K.ring d.g) refl (free d.g rows)
    where
      d : ListGcd K D.zero (coeff D.ring g.coeffs) (size D.ring g)
      d = list_gcd K D.zero (coeff D.ring g.coeffs) (size D.ring g)

      rows : DividesAll D.ring d.g g
      rows = divides_all D.ring D.laws D.tests d.g g (λ i l. (d.part i, d.of_each i l))

      go : (k : ℕ) → size K.ring d.g ≡ k → size K.ring d.g ≤ 1 → Divides D.ring a w
      go zero e l = let small : size K.ring (x K.ring K.laws K.tests) ≤ 1 = free
          (x K.ring K.laws K.tests) (λ i. divides_trans D.ring D.laws (x K.ring K.laws K.tests) d.g
          (coeff D.ring g.coeffs i) (
            D.zero,
            no_size K d.g e
                ∙ sym (zero_mul D.ring D.laws (x K.ring K.laws K.tests)),
          ) (rows i)) in absurd
          (let two : size K.ring (x K.ring K.laws K.tests)
          ≡ 2 = x_size in omega (arith, small, two))
      go (suc zero) e l =
          let u : (h : Poly K.ring) × (D.mul h d.g ≡ D.one) = unit_poly K d.g e in
          let v : Divides D.ring a (D.mul w d.g) = d.greatest a w (let z : Divides D.ring a D.zero =
          divides_zero D.ring D.laws a in (z.0, mul_zero D.ring D.laws w ∙ z.1)) (λ i l. all i)
          in
          subst (Divides D.ring a) (ring3 D.ring D.laws (λ h w g. h ⊗ (w ⊗ g))
          (λ h w g. w ⊗ (h ⊗ g)) refl u.0 w d.g ∙ ap (D.mul w) u.1 ∙ D.laws.mul_one w)
          (divides_left D.ring D.laws a u.0 (D.mul w d.g) v)
      go (suc (suc k)) e l = absurd (omega (arith, e, l))

  -- where c * f is w * g and the rows of g have no common factor, f is a multiple of g by a
  -- polynomial in x
  pub primitive_exact : (c w : Poly K.ring) (f g : Plane K)
      → (polynomials K.ring).same c (polynomials K.ring).zero ≡ false → IsPrimitive K.ring g
      → times_row K.ring c f ≡ times_row K.ring w g
      → (s : Poly K.ring) × (f ≡ times_row K.ring s g)
  primitive_exact c w f g nc free e = (
    s.0,
    Poly_ext D.ring D.laws D.tests f (times_row K.ring s.0 g)
        (λ i. cancel D _ _ c nc (D.laws.mul_comm _ c ∙ row i
        ∙ ap (λ t. D.mul t (coeff D.ring g.coeffs i)) s.1
        ∙ ring3 D.ring D.laws (λ s c g. (s ⊗ c) ⊗ g) (λ s c g. (s ⊗ g) ⊗ c) refl s.0 c
        (coeff D.ring g.coeffs i) ∙ ap (λ t. D.mul t c) (sym (times_row-at s.0 g i)))),
  )
    where
      row : (i : ℕ) → D.mul c (coeff D.ring f.coeffs i) ≡ D.mul w (coeff D.ring g.coeffs i)
      row i = sym (times_row-at c f i) ∙ ap (λ (p : Plane K). coeff D.ring p.coeffs i) e
          ∙ times_row-at w g i

      s : Divides D.ring c w
      s = primitive_divides g free c w (λ i. (
        coeff D.ring f.coeffs i,
        sym (row i)
            ∙ D.laws.mul_comm c (coeff D.ring f.coeffs i),
      ))

  -- the same for a product
  pub factor_exact : (c w : Poly K.ring) (f g h : Plane K)
      → (polynomials K.ring).same c (polynomials K.ring).zero ≡ false → IsPrimitive K.ring g
      → IsPrimitive K.ring h
      → times_row K.ring c f ≡ times_row K.ring w ((planes K).mul g h) → (s : Poly K.ring)
      × (f ≡ times_row K.ring s ((planes K).mul g h))
  factor_exact c w f g h nc free_g free_h e = primitive_exact c w f ((planes K).mul g h) nc
      (gauss K g h free_g free_h) e

  -- a plane whose leading row is 1
  pub monic_primitive : (g : Plane K) → leading_coeff (polynomials K.ring) g
      ≡ (polynomials K.ring).one → IsPrimitive K.ring g
  unfolding IsPrimitive
  monic_primitive g e d all = let h : Divides D.ring d (leading_coeff D.ring g) = all
      (pred (size D.ring g)) in one_divisor K d (h.0, sym e ∙ h.1)
