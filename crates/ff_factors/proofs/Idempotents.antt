-- Factors of f with no divisor in common give an element of E(f) that is its own square, and
-- neither 0 nor 1.
use Rattle.std.proofs.Common.{◌≡◌, ℕ, zero, suc, ◌<◌, ◌≤◌, false, refl, sym, ◌∙◌, ap, ap₂, subst}
use Rattle.std.proofs.Common.{arith}
use Rattle.ff_theory.specs.Ring.{RingOps, IsCommRing}
use Rattle.ff_theory.specs.Lawful.{Domain, Field}
use Rattle.ff_theory.specs.Poly.{Poly, polynomials}
use Rattle.ff_theory.specs.Division.{size}
use Rattle.ff_theory.specs.Divides.{Divides, IsCoprime}
use Rattle.ff_factors.specs.Factors.{IsFactored, AreCoprime}
use Rattle.ff_theory.proofs.Solver.{◌⊕◌, ◌⊗◌, neg, nil, unit, ring2, ring3, ring4, ring6, mul_zero}
use Rattle.ff_theory.proofs.Poly.{polynomial_laws}
use Rattle.ff_theory.proofs.Gcd.{Bezout, bezout, no_size}
use Rattle.ff_theory.proofs.PolyMap.{polynomial_domain, same_false, zero_size}
use Rattle.ff_theory.proofs.LowestTerms.{cancel}
use Rattle.ff_theory.proofs.QuotientUnits.{unit_poly, class_of, class_equal, class_differ}
use Rattle.ff_theory.proofs.QuotientUnits.{residue_map}
use Rattle.ff_theory.proofs.Algebra.{rational, fraction_of, embed, embed_map, embed_size, fconst}
use Rattle.ff_theory.proofs.Algebra.{algebra}
use Rattle.ff_theory.specs.Planes.{planes, Plane}
use Rattle.ff_theory.specs.Algebra.{proper, degree, algebra_of}
use Rattle.ff_theory.proofs.Model.{model}
use Rattle.ff_theory.proofs.NormalForms.{to_model, to_model_map, of_model, of_model_map}
use Rattle.ff_theory.proofs.NormalForms.{to_of_model}
use Rattle.ff_theory.proofs.Proper.{proper_is, proper_size}
use Rattle.ff_theory.proofs.ElementEuclid.{zero_plane_size}
use Rattle.ff_factors.proofs.Gauss.{one_divisor}
use Rattle.ff_factors.proofs.PrimitivePart.{scalar_nonzero}
use Rattle.ff_factors.proofs.NormalForm.{NormalForm, normal_form, normal_size, divisor_over}
use Rattle.ff_factors.proofs.NormalForm.{over_divisor, embed_times, fraction_nonzero, fconst_cancel}

-- an element that is its own square, and neither 0 nor 1
pub record Idempotent (R : RingOps) : Type 0 where
  pub e : R.carrier
  pub square : R.mul e e ≡ e
  pub not_zero : ¬ (e ≡ R.zero)
  pub not_one : ¬ (e ≡ R.one)

module _ (K : Field) where
  abbrev F : Field
  F = rational K

  abbrev Q : RingOps
  Q = polynomials F.ring

  QL : IsCommRing (polynomials F.ring)
  QL = polynomial_laws F.ring F.laws F.tests

  -- a combination of coprime planes is 1
  combined : (g h : Plane K) → 1 < size (polynomials K.ring) g → AreCoprime K.ring g h
      → IsCoprime (polynomials F.ring) (embed K g) (embed K h)
  combined g h positive none = go (size F.ring b.g) refl
    where
      b : Bezout F.ring (embed K g) (embed K h)
      b = bezout F (size F.ring (embed K h)) (embed K g)
          (embed K h) (omega arith)

      common : NormalForm K b.g → size F.ring b.g ≤ 1
      common s = let l : size (polynomials K.ring) s.plane ≤ 1 = none s.plane
          (divisor_over K s.plane g (Q.mul b.s (fconst K s.scale)) (b.of_a
          ∙ ap (Q.mul b.s) s.product ∙ sym (QL.mul_assoc b.s (fconst K s.scale) (embed K s.plane))))
          (divisor_over K s.plane h (Q.mul b.t (fconst K s.scale)) (b.of_b
          ∙ ap (Q.mul b.t) s.product
          ∙ sym (QL.mul_assoc b.t (fconst K s.scale) (embed K s.plane)))) in
          let e : size (polynomials K.ring) s.plane ≡ size F.ring b.g = normal_size K b.g s in omega
          (arith, l, e)

      go : (k : ℕ) → size F.ring b.g ≡ k → IsCoprime (polynomials F.ring) (embed K g) (embed K h)
      go zero e = let z : size F.ring (embed K g)
          ≡ 0 = ap (size F.ring) (b.of_a
          ∙ ap (Q.mul b.s) (no_size F b.g e)
          ∙ mul_zero Q QL b.s) ∙ zero_size F in
          let same : size F.ring (embed K g) ≡ size (polynomials K.ring) g = embed_size K g in
          absurd (omega (arith, z, same, positive))
      go (suc zero) e = let w : (w : Poly F.ring) × (Q.mul w b.g ≡ Q.one) = unit_poly F b.g e in
          record {
            u = Q.mul w.0 b.u;
            v = Q.mul w.0 b.v;
            one = ring6 Q QL (λ w u a v b z. w ⊗ u ⊗ a ⊕ w ⊗ v ⊗ b)
                (λ w u a v b z. w ⊗ (u ⊗ a ⊕ v ⊗ b))
                refl w.0 b.u (embed K g) b.v (embed K h) w.0 ∙ ap (Q.mul w.0) (sym b.combination)
                ∙ w.1;
          }
      go (suc (suc k)) e = let l : size F.ring b.g ≤ 1 = common (normal_form K b.g (suc k) e) in
          absurd (omega (arith, e, l))

  module _ (f : Plane K) (n : ℕ) (has : size (polynomials K.ring) f ≡ suc n) (g h : Plane K)
      (s : IsFactored K.ring f g h) where
    abbrev A : RingOps
    A = algebra K f n has

    abbrev G : Poly F.ring
    G = embed K g

    abbrev H : Poly F.ring
    H = embed K h

    abbrev S : Poly F.ring
    S = fconst K (fraction_of K s.scalar)

    abbrev cls : Poly F.ring → A.carrier
    cls p = class_of F (embed K f) n (embed_size K f ∙ has) p

    f_is : embed K f ≡ Q.mul S (Q.mul G H)
    f_is = ap (embed K) s.product ∙ embed_times K s.scalar ((planes K).mul g h)
        ∙ ap (Q.mul S) ((embed_map K).on_mul g h)

    -- 1 / scalar
    back : (i : Poly F.ring) × (Q.mul G H ≡ Q.mul i (embed K f))
    back = (
      fconst K (F.inverse (fraction_of K s.scalar)),
      fconst_cancel K (fraction_of K s.scalar)
          (fraction_nonzero K s.scalar (scalar_nonzero K f s.scalar ((planes K).mul g h) nf
          s.product)) (Q.mul G H) ∙ ap (Q.mul (fconst K (F.inverse (fraction_of K s.scalar))))
          (sym f_is),
    )
      where
        nf : ¬ (f ≡ (planes K).zero)
        nf z = let e : size (polynomials K.ring) f ≡ 0 = ap (size (polynomials K.ring)) z
            ∙ zero_plane_size K in absurd (omega (arith, e, has))

    too_small : (w : Plane K) → 1 < size (polynomials K.ring) w → Divides Q (embed K w) Q.one → ⊥
    too_small w l d = let k : size F.ring (embed K w) ≤ 1 = one_divisor F (embed K w) d in let e :
        size F.ring (embed K w) ≡ size (polynomials K.ring) w = embed_size K w in absurd
        (omega (arith, k, e, l))

    from_combination : IsCoprime (polynomials F.ring) G H → Idempotent A
    from_combination c = record {
      e = cls U;
      square = sym ((residue_map F (embed K f) n (embed_size K f ∙ has)).on_mul U U)
          ∙ class_equal F (embed K f) n (embed_size K f ∙ has) (Q.mul U U) U
          (Q.neg (Q.mul (Q.mul c.u c.v) back.0)) square;
      not_zero = λ z. too_small h s.right_degree
          (by_zero (class_differ F (embed K f) n (embed_size K f ∙ has) U Q.zero (z
          ∙ sym (residue_map F (embed K f) n (embed_size K f ∙ has)).on_zero)));
      not_one = λ z. too_small g s.left_degree
          (by_one (class_differ F (embed K f) n (embed_size K f ∙ has) U Q.one (z
          ∙ sym (residue_map F (embed K f) n (embed_size K f ∙ has)).on_one)));
    }
      where
        U : Poly F.ring
        U = Q.mul c.u G

        square : Q.mul U U ≡ Q.add U (Q.mul (Q.neg (Q.mul (Q.mul c.u c.v) back.0)) (embed K f))
        square = ring4 Q QL (λ u g v h. (u ⊗ g) ⊗ (u ⊗ g))
            (λ u g v h. (u ⊗ g) ⊗ (u ⊗ g ⊕ v ⊗ h) ⊕ neg ((u ⊗ v) ⊗ (g ⊗ h))) refl c.u G c.v H
            ∙ ap₂ (λ p q. Q.add (Q.mul U p) (Q.neg (Q.mul (Q.mul c.u c.v) q))) c.one back.1
            ∙ ring4 Q QL (λ e w i f. e ⊗ unit ⊕ neg (w ⊗ (i ⊗ f))) (λ e w i f. e ⊕ neg (w ⊗ i) ⊗ f)
            refl U (Q.mul c.u c.v) back.0 (embed K f)

        by_zero : (q : Poly F.ring) × (U ≡ Q.add Q.zero (Q.mul q (embed K f))) → Divides Q H Q.one
        by_zero q = (
          Q.add (Q.mul q.0 (Q.mul S G)) c.v,
          sym c.one ∙ ap (λ t. Q.add t (Q.mul c.v H)) (q.1
              ∙ ap (λ t. Q.add Q.zero (Q.mul q.0 t)) f_is)
              ∙ ring6 Q QL (λ q s g h v z. (nil ⊕ q ⊗ (s ⊗ (g ⊗ h))) ⊕ v ⊗ h)
              (λ q s g h v z. (q ⊗ (s ⊗ g) ⊕ v) ⊗ h) refl q.0 S G H c.v H,
        )

        by_one : (q : Poly F.ring) × (U ≡ Q.add Q.one (Q.mul q (embed K f))) → Divides Q G Q.one
        by_one q = (
          Q.add c.u (Q.neg (Q.mul q.0 (Q.mul S H))),
          ring2 Q QL (λ q f. unit) (λ q f. (unit ⊕ q ⊗ f) ⊕ neg (q ⊗ f)) refl q.0 (embed K f)
              ∙ ap₂ (λ a b. Q.add a (Q.neg (Q.mul q.0 b))) (sym q.1) f_is
              ∙ ring6 Q QL (λ u g q s h z. u ⊗ g ⊕ neg (q ⊗ (s ⊗ (g ⊗ h))))
              (λ u g q s h z. (u ⊕ neg (q ⊗ (s ⊗ h))) ⊗ g) refl c.u G q.0 S H H,
        )

    idempotent_at : AreCoprime K.ring g h → Idempotent A
    idempotent_at none = from_combination (combined g h s.left_degree none)

    -- a common divisor w gives g * h / w, whose square is 0
    common_small : (w : Plane K) (p q : Poly F.ring) → G ≡ Q.mul p (embed K w) → H
        ≡ Q.mul q (embed K w) → ((a : A.carrier) → A.mul a a ≡ A.zero → a ≡ A.zero)
        → size (polynomials K.ring) w ≤ 1
    common_small w p q eg eh reduced = let k : size F.ring W ≤ 1 = one_divisor F W
        (Q.mul r.0 S, cancel QD Q.one (Q.mul (Q.mul r.0 S) W) U U_nonzero one) in let e : size
        F.ring W ≡ size (polynomials K.ring) w = embed_size K w in omega (arith, k, e)
      where
        QD : Domain
        QD = polynomial_domain F

        W : Poly F.ring
        W = embed K w

        U : Poly F.ring
        U = Q.mul (Q.mul p q) W

        f_by : embed K f ≡ Q.mul (Q.mul S W) U
        f_by = f_is ∙ ap (Q.mul S) (ap₂ Q.mul eg eh)
            ∙ ring4 Q QL (λ s p q w. s ⊗ ((p ⊗ w) ⊗ (q ⊗ w))) (λ s p q w. (s ⊗ w) ⊗ ((p ⊗ q) ⊗ w))
            refl S p q W

        U_nonzero : Q.same U Q.zero ≡ false
        U_nonzero = same_false Q QD.tests U Q.zero (λ z. let none : size F.ring (embed K f)
            ≡ 0 = ap (size F.ring) (f_by ∙ ap (Q.mul (Q.mul S W)) z ∙ mul_zero Q QL (Q.mul S W))
            ∙ zero_size F in
            let e : size F.ring (embed K f) ≡ size (polynomials K.ring) f = embed_size K f in absurd
            (omega (arith, none, e, has)))

        square : A.mul (cls U) (cls U) ≡ A.zero
        square = sym ((residue_map F (embed K f) n (embed_size K f ∙ has)).on_mul U U)
            ∙ class_equal F (embed K f) n (embed_size K f ∙ has) (Q.mul U U) Q.zero
            (Q.mul (Q.mul p q) back.0) (
            ring3 Q QL (λ p q w. (p ⊗ q ⊗ w) ⊗ (p ⊗ q ⊗ w)) (λ p q w. (p ⊗ q) ⊗ ((p ⊗ w) ⊗ (q ⊗ w)))
            refl p q W ∙ ap (Q.mul (Q.mul p q)) (sym (ap₂ Q.mul eg eh) ∙ back.1)
            ∙ ring4 Q QL (λ p q i f. (p ⊗ q) ⊗ (i ⊗ f)) (λ p q i f. nil ⊕ (p ⊗ q ⊗ i) ⊗ f) refl p q
            back.0 (embed K f)) ∙ (residue_map F (embed K f) n (embed_size K f ∙ has)).on_zero

        r : (r : Poly F.ring) × (U ≡ Q.add Q.zero (Q.mul r (embed K f)))
        r = class_differ F (embed K f) n (embed_size K f ∙ has) U Q.zero (reduced (cls U) square
            ∙ sym (residue_map F (embed K f) n (embed_size K f ∙ has)).on_zero)

        one : Q.mul Q.one U ≡ Q.mul (Q.mul (Q.mul r.0 S) W) U
        one = ring2 Q QL (λ u f. unit ⊗ u) (λ u f. u) refl U (embed K f) ∙ r.1
            ∙ ap (λ t. Q.add Q.zero (Q.mul r.0 t)) f_by
            ∙ ring4 Q QL (λ r s w u. nil ⊕ r ⊗ ((s ⊗ w) ⊗ u)) (λ r s w u. (r ⊗ s ⊗ w) ⊗ u) refl r.0
            S W U

    coprime_at : ((a : A.carrier) → A.mul a a ≡ A.zero → a ≡ A.zero) → AreCoprime K.ring g h
    coprime_at reduced w dg dh = common_small w (over_divisor K w g dg).0 (over_divisor K w h dh).0
        (over_divisor K w g dg).1 (over_divisor K w h dh).1 reduced

  pub coprime_split : (f g h : Plane K) → ¬ (size (polynomials K.ring) f ≡ 0)
      → IsFactored K.ring f g h → AreCoprime K.ring g h → Idempotent (algebra_of K f)
  unfolding model
  coprime_split f g h nf s none = carried (idempotent_at (proper K f) (degree K f) (proper_size K f)
      g h (subst (λ p. IsFactored K.ring p g h) (sym (proper_is K f nf)) s) none)
    where
      carried : Idempotent (model K f) → Idempotent (algebra_of K f)
      carried i = record {
        e = of_model K f i.e;
        square = sym ((of_model_map K f).on_mul i.e i.e) ∙ ap (of_model K f) i.square;
        not_zero = λ z. i.not_zero (sym (to_of_model K f i.e) ∙ ap (to_model K f) z
            ∙ (to_model_map K f).on_zero);
        not_one = λ z. i.not_one (sym (to_of_model K f i.e) ∙ ap (to_model K f) z
            ∙ (to_model_map K f).on_one);
      }

  -- where no square but that of 0 is 0, factors of f have no divisor in common
  pub coprime_if_reduced : (f g h : Plane K) → ¬ (size (polynomials K.ring) f ≡ 0)
      → IsFactored K.ring f g h → ((a : (algebra_of K f).carrier) → (algebra_of K f).mul a a
      ≡ (algebra_of K f).zero → a ≡ (algebra_of K f).zero) → AreCoprime K.ring g h
  unfolding model
  coprime_if_reduced f g h nf s reduced = coprime_at (proper K f) (degree K f) (proper_size K f) g h
      (subst (λ p. IsFactored K.ring p g h) (sym (proper_is K f nf)) s) carried
    where
      carried : (a : (model K f).carrier) → (model K f).mul a a ≡ (model K f).zero → a
          ≡ (model K f).zero
      carried a e = sym (to_of_model K f a)
          ∙ ap (to_model K f) (reduced (of_model K f a) (sym ((of_model_map K f).on_mul a a)
          ∙ ap (of_model K f) e ∙ (of_model_map K f).on_zero)) ∙ (to_model_map K f).on_zero
