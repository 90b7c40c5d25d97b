-- Elements X and Y of a field with f(X, Y) = 0, where no polynomial in x but 0 vanishes at X: the
-- map of E(f) that takes x to X and y to Y keeps sums, products and constants, and is the only one.
use Rattle.std.proofs.Common.{◌≡◌, false, List, [], ◌∷◌, refl, sym, ◌∙◌, ap, ap₂}
use Rattle.ff_theory.specs.Ring.{RingOps, IsCommRing}
use Rattle.ff_theory.specs.Lawful.{Domain, Field}
use Rattle.ff_theory.specs.Map.{IsMap}
use Rattle.ff_theory.specs.Eval.{eval_list, eval, plane_at}
use Rattle.ff_theory.specs.Poly.{Poly, poly, polynomials}
use Rattle.ff_theory.specs.Division.{size}
use Rattle.ff_theory.specs.Monomial.{variable}
use Rattle.ff_theory.specs.Planes.{planes, Plane, row_of, IsDivisorOver}
use Rattle.ff_theory.specs.Algebra.{algebra_of, value_of, constant, x_of, y_of, degree, proper}
use Rattle.ff_theory.specs.Algebra.{element}
use Rattle.ff_theory.specs.LowestTerms.{IsLowest}
use Rattle.ff_theory.proofs.Constants.{constant_map}
use Rattle.ff_theory.proofs.Solver.{◌⊕◌, ◌⊗◌, neg, nil, unit, ring1, ring2, ring3, ring4}
use Rattle.ff_theory.proofs.Solver.{mul_zero}
use Rattle.ff_theory.proofs.Evaluate.{eval_map, plane_at_map, eval-const, at_trim, const_map}
use Rattle.ff_theory.proofs.PolyMap.{polynomial_domain}
use Rattle.ff_theory.proofs.Domains.{no_divisors, field_domain}
use Rattle.ff_theory.proofs.Proper.{proper_is}
use Rattle.ff_theory.proofs.Element.{algebra_is_ring, value_map, form, lowest_nonzero}
use Rattle.ff_theory.proofs.Element.{element_clear, divides_exact}

module _ (K : Field) (f : Plane K) (some : ¬ (size (polynomials K.ring) f ≡ 0)) (B : Field)
    (into : K.carrier → B.carrier) (map : IsMap K.ring B.ring into) (X Y : B.carrier)
    (satisfies : plane_at K.ring B.ring into X Y f ≡ B.zero)
    (free : (p : Poly K.ring) → (polynomials K.ring).same p (polynomials K.ring).zero ≡ false
    → ¬ (eval K.ring B.ring into X p ≡ B.zero)) where
  infixl 60 ◌⊞◌
  infixl 70 ◌*◌
  open B use {add as ◌⊞◌, mul as ◌*◌, neg as minus}

  abbrev P : Domain
  P = polynomial_domain K

  abbrev A : RingOps
  A = algebra_of K f

  AL : IsCommRing (algebra_of K f)
  AL = algebra_is_ring K f

  abbrev ev : Poly K.ring → B.carrier
  ev p = eval K.ring B.ring into X p

  abbrev at : Plane K → B.carrier
  at N = plane_at K.ring B.ring into X Y N

  E : IsMap (polynomials K.ring) B.ring ev
  E = eval_map K.ring B.ring K.laws K.tests B.laws into map X

  G : IsMap (planes K) B.ring at
  G = plane_at_map K.ring B.ring K.laws K.tests B.laws into map X Y

  row_at : (p : Poly K.ring) → at (row_of K.ring p) ≡ ev p
  row_at p = eval-const (polynomials K.ring) B.ring P.laws P.tests B.laws ev E Y p

  -- what has the value 0 in E(f) is 0 at X and Y
  vanishes : (N : Plane K) → value_of K f N ≡ A.zero → at N ≡ B.zero
  vanishes N z = no_divisors (field_domain B) (at N) (ev d.scalar)
      (B.laws.mul_comm _ _ ∙ ap (λ t. t * at N) (sym (row_at d.scalar))
      ∙ sym (G.on_mul (row_of K.ring d.scalar) N) ∙ ap at d.product
      ∙ G.on_mul d.quotient (proper K f)
      ∙ ap (λ t. at d.quotient * at t) (proper_is K f some)
      ∙ ap (λ t. at d.quotient * t) satisfies ∙ mul_zero B.ring B.laws (at d.quotient))
      (free d.scalar d.nonzero)
    where
      d : IsDivisorOver K.ring (proper K f) N
      d = divides_exact K f N z

  -- equal values in E(f), equal values at X and Y
  equal : (M N : Plane K) → value_of K f M ≡ value_of K f N → at M ≡ at N
  equal M N e = ring2 B.ring B.laws (λ m n. m) (λ m n. (m ⊕ neg n) ⊕ n) refl (at M) (at N)
      ∙ ap (λ t. t ⊞ at N) (ap (λ t. at M ⊞ t) (sym (G.on_neg N))
      ∙ sym (G.on_add M ((planes K).neg N))
      ∙ vanishes ((planes K).add M ((planes K).neg N)) ((value_map K f).on_add M _
      ∙ ap₂ A.add e ((value_map K f).on_neg N) ∙ AL.add_neg _))
      ∙ ring1 B.ring B.laws (λ n. nil ⊕ n) (λ n. n) refl (at N)

  abbrev den : A.carrier → Poly K.ring
  den a = (form K f a).den

  abbrev num : A.carrier → Plane K
  num a = poly (polynomials K.ring) (form K f a).nums

  den_nonzero : (a : A.carrier) → P.same (den a) P.zero ≡ false
  den_nonzero a = lowest_nonzero K f (degree K f) (form K f a).den (form K f a).nums
      (form K f a).lowest

  cleared : (a : A.carrier) → A.mul (value_of K f (row_of K.ring (den a))) a ≡ value_of K f (num a)
  cleared a = ap (A.mul (value_of K f (row_of K.ring (den a)))) (sym (form K f a).stands)
      ∙ element_clear K f (den a) (form K f a).nums (den_nonzero a)

  pub image : (algebra_of K f).carrier → B.carrier
  image a = at (num a) * B.inverse (ev (den a))

  -- an element times d(x) is N(x, y): its image times d(X) is N(X, Y)
  pub image_by : (a : (algebra_of K f).carrier) (d : Poly K.ring) (N : Plane K)
      → (algebra_of K f).mul (value_of K f (row_of K.ring d)) a ≡ value_of K f N
      → B.mul (image a) (eval K.ring B.ring into X d) ≡ plane_at K.ring B.ring into X Y N
  unfolding image
  image_by a d N e = ring3 B.ring B.laws (λ n i d. (n ⊗ i) ⊗ d) (λ n i d. (d ⊗ n) ⊗ i) refl
      (at (num a)) (B.inverse (ev (den a))) (ev d)
      ∙ ap (λ t. t * B.inverse (ev (den a))) crossed
      ∙ ring3 B.ring B.laws (λ d n i. (d ⊗ n) ⊗ i) (λ d n i. n ⊗ (d ⊗ i)) refl (ev (den a)) (at N)
      (B.inverse (ev (den a)))
      ∙ ap (λ t. at N * t) (B.is_field.mul_inverse (ev (den a)) (free (den a) (den_nonzero a)))
      ∙ B.laws.mul_one (at N)
    where
      crossed : ev d * at (num a) ≡ ev (den a) * at N
      crossed = ap (λ t. t * at (num a)) (sym (row_at d))
          ∙ sym (G.on_mul (row_of K.ring d) (num a))
          ∙ equal ((planes K).mul (row_of K.ring d) (num a))
          ((planes K).mul (row_of K.ring (den a)) N) ((value_map K f).on_mul _ _
          ∙ ap (A.mul (value_of K f (row_of K.ring d))) (sym (cleared a))
          ∙ ring3 A AL (λ d c a. d ⊗ (c ⊗ a)) (λ d c a. c ⊗ (d ⊗ a)) refl
          (value_of K f (row_of K.ring d)) (value_of K f (row_of K.ring (den a))) a
          ∙ ap (A.mul (value_of K f (row_of K.ring (den a)))) e
          ∙ sym ((value_map K f).on_mul (row_of K.ring (den a)) N))
          ∙ G.on_mul (row_of K.ring (den a)) N ∙ ap (λ t. t * at N) (row_at (den a))

  -- elements by their product with d(X)
  cancel_at : (d : Poly K.ring) → P.same d P.zero ≡ false → (u v : B.carrier)
      → u * ev d ≡ v * ev d → u ≡ v
  cancel_at d nd u v e = back u ∙ ap (λ t. t * B.inverse (ev d)) e ∙ sym (back v)
    where
      back : (u : B.carrier) → u ≡ (u * ev d) * B.inverse (ev d)
      back u = ring1 B.ring B.laws (λ u. u) (λ u. u ⊗ unit) refl u
          ∙ ap (λ t. u * t) (sym (B.is_field.mul_inverse (ev d) (free d nd)))
          ∙ sym (B.laws.mul_assoc u (ev d) (B.inverse (ev d)))

  -- the image of a polynomial in x and y
  pub image_plane : (N : Plane K) → image (value_of K f N) ≡ plane_at K.ring B.ring into X Y N
  image_plane N = ring1 B.ring B.laws (λ u. u) (λ u. u ⊗ unit) refl (image (value_of K f N))
      ∙ ap (λ t. image (value_of K f N) * t) (sym E.on_one)
      ∙ image_by (value_of K f N) P.one N (ap (λ t. A.mul t (value_of K f N))
      (value_map K f).on_one ∙ AL.mul_comm _ _ ∙ AL.mul_one _)

  both : (a b : A.carrier) → P.same (P.mul (den a) (den b)) P.zero ≡ false
  both a b = P.no_divisors (den a) (den b) (den_nonzero a) (den_nonzero b)

  row_product : (d e : Poly K.ring) → value_of K f (row_of K.ring (P.mul d e))
      ≡ A.mul (value_of K f (row_of K.ring d)) (value_of K f (row_of K.ring e))
  row_product d e = ap (value_of K f) ((const_map (polynomials K.ring) P.laws P.tests).on_mul d e)
      ∙ (value_map K f).on_mul (row_of K.ring d) (row_of K.ring e)

  own : (a : A.carrier) → image a * ev (den a) ≡ at (num a)
  own a = image_by a (den a) (num a) (cleared a)

  pub image_add : (a b : (algebra_of K f).carrier)
      → image ((algebra_of K f).add a b) ≡ B.add (image a) (image b)
  image_add a b = cancel_at (P.mul (den a) (den b)) (both a b) _ _
      (image_by (A.add a b) (P.mul (den a) (den b)) N whole ∙ G.on_add _ _
      ∙ ap₂ B.add (G.on_mul _ _ ∙ ap₂ B.mul (row_at (den b)) (sym (own a)))
      (G.on_mul _ _ ∙ ap₂ B.mul (row_at (den a)) (sym (own b)))
      ∙ ring4 B.ring B.laws (λ u v d e. e ⊗ (u ⊗ d) ⊕ d ⊗ (v ⊗ e)) (λ u v d e. (u ⊕ v) ⊗ (d ⊗ e))
      refl (image a) (image b) (ev (den a)) (ev (den b))
      ∙ ap (λ t. (image a ⊞ image b) * t) (sym (E.on_mul (den a) (den b))))
    where
      N : Plane K
      N = (planes K).add ((planes K).mul (row_of K.ring (den b)) (num a))
          ((planes K).mul (row_of K.ring (den a)) (num b))

      whole : A.mul (value_of K f (row_of K.ring (P.mul (den a) (den b)))) (A.add a b)
          ≡ value_of K f ((planes K).add ((planes K).mul (row_of K.ring (den b)) (num a))
          ((planes K).mul (row_of K.ring (den a)) (num b)))
      whole = ap (λ t. A.mul t (A.add a b)) (row_product (den a) (den b))
          ∙ ring4 A AL (λ a b d e. (d ⊗ e) ⊗ (a ⊕ b)) (λ a b d e. e ⊗ (d ⊗ a) ⊕ d ⊗ (e ⊗ b)) refl a
          b (value_of K f (row_of K.ring (den a))) (value_of K f (row_of K.ring (den b)))
          ∙ ap₂ A.add (ap (A.mul _) (cleared a) ∙ sym ((value_map K f).on_mul _ _))
          (ap (A.mul _) (cleared b) ∙ sym ((value_map K f).on_mul _ _))
          ∙ sym ((value_map K f).on_add _ _)

  pub image_mul : (a b : (algebra_of K f).carrier)
      → image ((algebra_of K f).mul a b) ≡ B.mul (image a) (image b)
  image_mul a b = cancel_at (P.mul (den a) (den b)) (both a b) _ _
      (image_by (A.mul a b) (P.mul (den a) (den b)) ((planes K).mul (num a) (num b)) whole
      ∙ G.on_mul _ _ ∙ ap₂ B.mul (sym (own a)) (sym (own b))
      ∙ ring4 B.ring B.laws (λ u v d e. (u ⊗ d) ⊗ (v ⊗ e)) (λ u v d e. (u ⊗ v) ⊗ (d ⊗ e)) refl
      (image a) (image b) (ev (den a)) (ev (den b))
      ∙ ap (λ t. (image a * image b) * t) (sym (E.on_mul (den a) (den b))))
    where
      whole : A.mul (value_of K f (row_of K.ring (P.mul (den a) (den b)))) (A.mul a b)
          ≡ value_of K f ((planes K).mul (num a) (num b))
      whole = ap (λ t. A.mul t (A.mul a b)) (row_product (den a) (den b))
          ∙ ring4 A AL (λ a b d e. (d ⊗ e) ⊗ (a ⊗ b)) (λ a b d e. (d ⊗ a) ⊗ (e ⊗ b)) refl a b
          (value_of K f (row_of K.ring (den a))) (value_of K f (row_of K.ring (den b)))
          ∙ ap₂ A.mul (cleared a) (cleared b) ∙ sym ((value_map K f).on_mul _ _)

  pub image_constant : (s : K.carrier) → image (constant K f s) ≡ into s
  unfolding constant
  image_constant s = image_plane (row_of K.ring (poly K.ring (s ∷ []))) ∙ row_at _
      ∙ eval-const K.ring B.ring K.laws K.tests B.laws into map X s

  pub image_x : image (x_of K f) ≡ X
  unfolding x_of poly eval
  image_x = image_plane (row_of K.ring (variable K.ring)) ∙ row_at _
      ∙ at_trim K.ring B.ring K.laws K.tests B.laws into map X (K.zero ∷ K.one ∷ [])
      ∙ ap₂ (λ z o. z ⊞ X * (o ⊞ X * B.zero)) map.on_zero map.on_one
      ∙ ring1 B.ring B.laws (λ x. nil ⊕ x ⊗ (unit ⊕ x ⊗ nil)) (λ x. x) refl X

  pub image_y : image (y_of K f) ≡ Y
  unfolding y_of poly eval
  image_y = image_plane (variable (polynomials K.ring))
      ∙ at_trim (polynomials K.ring) B.ring P.laws P.tests B.laws ev E Y (P.zero ∷ P.one ∷ [])
      ∙ ap₂ (λ z o. z ⊞ Y * (o ⊞ Y * B.zero)) E.on_zero E.on_one
      ∙ ring1 B.ring B.laws (λ y. nil ⊕ y ⊗ (unit ⊕ y ⊗ nil)) (λ y. y) refl Y

  -- the image of an element is its value at X and Y
  pub image_value : (den : Poly K.ring) (nums : List (Poly K.ring))
      → IsLowest K (degree K f) den nums → (v i : B.carrier)
      → B.mul i (eval K.ring B.ring into X den) ≡ B.one
      → v ≡ B.mul (plane_at K.ring B.ring into X Y (poly (polynomials K.ring) nums)) i
      → image (element K f den nums) ≡ v
  image_value den nums lowest v i inverts product =
      ring1 B.ring B.laws (λ u. u) (λ u. u ⊗ unit) refl (image (element K f den nums))
      ∙ ap (λ t. image (element K f den nums) * t) (sym inverts)
      ∙ ring3 B.ring B.laws (λ u i d. u ⊗ (i ⊗ d)) (λ u i d. (u ⊗ d) ⊗ i) refl
      (image (element K f den nums)) i (ev den)
      ∙ ap (λ t. t * i) (image_by (element K f den nums) den (poly (polynomials K.ring) nums)
      (element_clear K f den nums (lowest_nonzero K f (degree K f) den nums lowest)))
      ∙ sym product

  -- the image of a polynomial at an element
  pub image_eval : (w : (algebra_of K f).carrier) (p : Poly K.ring)
      → image (eval K.ring (algebra_of K f) (constant K f) w p)
      ≡ eval K.ring B.ring into (image w) p
  unfolding eval
  image_eval w p = lists p.coeffs
    where
      lists : (p : List K.carrier) → image (eval_list (algebra_of K f) (constant K f) w p)
          ≡ eval_list B.ring into (image w) p
      lists [] = ap image (sym (constant_map K f).on_zero) ∙ image_constant K.zero ∙ map.on_zero
      lists (s ∷ p) = image_add _ _ ∙ ap₂ B.add (image_constant s)
          (image_mul w _ ∙ ap (λ t. image w * t) (lists p))
