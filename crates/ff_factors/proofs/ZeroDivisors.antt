-- What has no inverse in E(f) gives factors of f; what has one has no factor in common with f.
use Rattle.std.proofs.Common.{◌≡◌, ℕ, zero, suc, ◌<◌, ◌≤◌, ◌⊎◌, inl, inr, false, List, refl, sym}
use Rattle.std.proofs.Common.{◌∙◌, ap, subst, arith}
use Rattle.std.proofs.lemmas.Bool.{cases_lt}
use Rattle.ff_theory.specs.Ring.{RingOps, IsCommRing}
use Rattle.ff_theory.specs.Lawful.{Field}
use Rattle.ff_theory.specs.Poly.{Poly, poly, polynomials}
use Rattle.ff_theory.specs.Division.{size}
use Rattle.ff_factors.specs.Factors.{IsFactored, AreCoprime}
use Rattle.ff_theory.specs.Planes.{IsDivisorOver, planes, Plane, row_of}
use Rattle.ff_theory.proofs.Solver.{◌⊕◌, ◌⊗◌, neg, nil, unit, ring1, ring6, mul_zero}
use Rattle.ff_theory.proofs.Poly.{polynomial_laws}
use Rattle.ff_theory.proofs.Gcd.{Bezout, bezout}
use Rattle.ff_theory.proofs.Quotient.{class_back}
use Rattle.ff_theory.proofs.QuotientUnits.{unit_poly, class_of, class_equal, class_differ}
use Rattle.ff_theory.proofs.QuotientUnits.{residue_map, unit_of_coprime}
use Rattle.ff_theory.proofs.Algebra.{rational, embed, embed_size, fconst, algebra, plane_value}
use Rattle.ff_theory.proofs.Model.{model, model_value}
use Rattle.ff_theory.proofs.NormalForms.{to_model, to_model_one, to_model_value, to_model_map}
use Rattle.ff_theory.proofs.NormalForms.{of_model, of_model_value, of_model_map}
use Rattle.ff_theory.proofs.Element.{divides_exact, zero_exact, algebra_is_ring, element_clear}
use Rattle.ff_theory.specs.Algebra.{proper, degree, algebra_of, value_of, inverse_of, element}
use Rattle.ff_theory.proofs.Proper.{proper_is, proper_size}
use Rattle.ff_factors.proofs.Gauss.{zero_product, one_divisor}
use Rattle.ff_factors.proofs.NormalForm.{NormalForm, normal_form, factored_over, divisor_over}
use Rattle.ff_factors.proofs.NormalForm.{over_divisor, divisor_self, factored_divides}

module _ (K : Field) where
  abbrev F : Field
  F = rational K

  abbrev Q : RingOps
  Q = polynomials F.ring

  QL : IsCommRing (polynomials F.ring)
  QL = polynomial_laws F.ring F.laws F.tests

  -- f divides N over k(x) exactly where the value of N in E(f) is 0
  pub value_if_divides : (f N : Plane K) → ¬ (size (polynomials K.ring) f ≡ 0)
      → IsDivisorOver K.ring f N → value_of K f N ≡ (algebra_of K f).zero
  value_if_divides f N nf d = zero_exact K f N
      (record {
        scalar = d.scalar;
        nonzero = d.nonzero;
        quotient = d.quotient;
        product = d.product
            ∙ ap ((planes K).mul d.quotient) (sym (proper_is K f nf));
      })

  pub divides_if_value : (f N : Plane K) → ¬ (size (polynomials K.ring) f ≡ 0) → value_of K f N
      ≡ (algebra_of K f).zero → IsDivisorOver K.ring f N
  divides_if_value f N nf e = let d = divides_exact K f N e in record {
    scalar = d.scalar;
    nonzero = d.nonzero;
    quotient = d.quotient;
    product = d.product
        ∙ ap ((planes K).mul d.quotient) (proper_is K f nf);
  }

  -- normalised factors of f, of which the first divides N
  pub record FactorOf (f N : Plane K) : Type 0 where
    pub g : Plane K
    pub h : Plane K
    pub factored : IsFactored K.ring f g h
    pub divides : IsDivisorOver K.ring g N

  module _ (f : Plane K) (n : ℕ) (has : size (polynomials K.ring) f ≡ suc n) where
    abbrev A : RingOps
    A = algebra K f n has

    -- a value is 0, or has an inverse, or there is a factor
    value_cases : (N : Plane K) → (plane_value K f n has N ≡ A.zero)
        ⊎ (((w : A.carrier) × (A.mul w (plane_value K f n has N) ≡ A.one)) ⊎ FactorOf f N)
    unfolding plane_value
    value_cases N = go (size F.ring b.g) refl (size F.ring b.t) refl
      where
        b : Bezout F.ring (embed K N) (embed K f)
        b = bezout F (size F.ring (embed K f)) (embed K N)
            (embed K f) (omega arith)

        product : size F.ring (Q.mul b.t b.g) ≡ suc n
        product = ap (size F.ring) (sym b.of_b) ∙ embed_size K f ∙ has

        unit_case : (h : Poly F.ring) → Q.mul h b.g ≡ Q.one → (w : A.carrier)
            × (A.mul w (plane_value K f n has N) ≡ A.one)
        unit_case h e = (
          class_of F (embed K f) n (embed_size K f ∙ has) (Q.mul h b.u),
          unit_of_coprime F (embed K f) n (embed_size K f ∙ has) (embed K N) (Q.mul h b.u)
              (Q.mul h b.v) (
              ring6 Q QL (λ h u a v b z. h ⊗ u ⊗ a ⊕ h ⊗ v ⊗ b) (λ h u a v b z. h ⊗ (u ⊗ a ⊕ v ⊗ b))
              refl h b.u (embed K N) b.v (embed K f) h ∙ ap (Q.mul h) (sym b.combination) ∙ e),
        )

        zero_case : (h : Poly F.ring) → Q.mul h b.t ≡ Q.one → plane_value K f n has N ≡ A.zero
        zero_case h e = class_equal F (embed K f) n (embed_size K f ∙ has) (embed K N) Q.zero
            (Q.mul b.s h) (b.of_a ∙ ap (Q.mul b.s) (ring1 Q QL (λ g. g) (λ g. unit ⊗ g) refl b.g
            ∙ ap (λ t. Q.mul t b.g) (sym e))
            ∙ ring6 Q QL (λ s h t g y z. s ⊗ (h ⊗ t ⊗ g)) (λ s h t g y z. nil ⊕ s ⊗ h ⊗ (t ⊗ g))
            refl b.s h b.t b.g h h ∙ ap (λ t. Q.add Q.zero (Q.mul (Q.mul b.s h) t)) (sym b.of_b))
            ∙ (residue_map F (embed K f) n (embed_size K f ∙ has)).on_zero

        factor_case : NormalForm K b.g → NormalForm K b.t → 1 < size F.ring b.g
            → 1 < size F.ring b.t → FactorOf f N
        factor_case g t lg lt = record {
          g = g.plane;
          h = t.plane;
          factored = factored_over K f b.g b.t g t (b.of_b ∙ QL.mul_comm b.t b.g) lg lt;
          divides = divisor_over K g.plane N (Q.mul b.s (fconst K g.scale)) (b.of_a
              ∙ ap (Q.mul b.s) g.product
              ∙ sym (QL.mul_assoc b.s (fconst K g.scale) (embed K g.plane)));
        }

        go : (k : ℕ) → size F.ring b.g ≡ k → (j : ℕ) → size F.ring b.t ≡ j
            → (plane_value K f n has N ≡ A.zero)
            ⊎ (((w : A.carrier) × (A.mul w (plane_value K f n has N) ≡ A.one)) ⊎ FactorOf f N)
        go zero e j h = absurd (zero_product F b.t b.g n product (inr e))
        go (suc zero) e j h = let u : (h : Poly F.ring) × (Q.mul h b.g ≡ Q.one) = unit_poly F b.g e
            in inr (inl (unit_case u.0 u.1))
        go (suc (suc k)) e zero h = absurd (zero_product F b.t b.g n product (inl h))
        go (suc (suc k)) e (suc zero) h = let u : (h : Poly F.ring)
            × (Q.mul h b.t ≡ Q.one) = unit_poly F b.t h in inl (zero_case u.0 u.1)
        go (suc (suc k)) e (suc (suc j)) h = inr
            (inr (factor_case (normal_form K b.g (suc k) e) (normal_form K b.t (suc j) h)
            (omega (arith, e)) (omega (arith, h))))

    -- a common divisor of f and N of positive degree in y, and an inverse of N, cannot be
    no_common : (w N : Plane K) → IsDivisorOver K.ring w f → IsDivisorOver K.ring w N
        → 1 < size (polynomials K.ring) w → (z : A.carrier) → ¬ (A.mul z (plane_value K f n has N)
        ≡ A.one)
    unfolding plane_value
    no_common w N df dN positive z e = let small : size F.ring (embed K w) ≤ 1 = one_divisor F
        (embed K w) one in let same : size F.ring (embed K w)
        ≡ size (polynomials K.ring) w = embed_size K w in absurd
        (omega (arith, small, same, positive))
      where
        p : (u : Poly F.ring) × (embed K N ≡ Q.mul u (embed K w))
        p = over_divisor K w N dN

        q : (u : Poly F.ring) × (embed K f ≡ Q.mul u (embed K w))
        q = over_divisor K w f df

        d : (u : Poly F.ring) × (Q.mul z.rep (embed K N) ≡ Q.add Q.one (Q.mul u (embed K f)))
        d = class_differ F (embed K f) n (embed_size K f ∙ has) (Q.mul z.rep (embed K N)) Q.one
            ((residue_map F (embed K f) n (embed_size K f ∙ has)).on_mul z.rep (embed K N)
            ∙ ap (λ t. A.mul t (class_of F (embed K f) n (embed_size K f ∙ has) (embed K N)))
            (class_back F (embed K f) n (embed_size K f
            ∙ has) z) ∙ e ∙ sym (residue_map F (embed K f) n (embed_size K f ∙ has)).on_one)

        one : (u : Poly F.ring) × (Q.one ≡ Q.mul u (embed K w))
        one = (
          Q.add (Q.mul z.rep p.0) (Q.neg (Q.mul d.0 q.0)),
          ring1 Q QL (λ t. unit) (λ t. (unit ⊕ t) ⊕ neg t) refl (Q.mul d.0 (embed K f))
              ∙ ap (λ t. Q.add t (Q.neg (Q.mul d.0 (embed K f)))) (sym d.1)
              ∙ ap (λ t. Q.add (Q.mul z.rep t) (Q.neg (Q.mul d.0 (embed K f)))) p.1
              ∙ ap (λ t. Q.add (Q.mul z.rep (Q.mul p.0 (embed K w))) (Q.neg (Q.mul d.0 t))) q.1
              ∙ ring6 Q QL (λ z p d q w y. z ⊗ (p ⊗ w) ⊕ neg (d ⊗ (q ⊗ w)))
              (λ z p d q w y. (z ⊗ p ⊕ neg (d ⊗ q)) ⊗ w) refl z.rep p.0 d.0 q.0 (embed K w) z.rep,
        )

  module _ (f : Plane K) (nf : ¬ (size (polynomials K.ring) f ≡ 0)) where
    abbrev E : RingOps
    E = algebra_of K f

    -- a plane whose value is not 0 has an inverse in E(f), or a normalised factor of f divides it
    pub inverse_or_factor : (N : Plane K) → ¬ (value_of K f N ≡ (algebra_of K f).zero)
        → ((w : (algebra_of K f).carrier) × ((algebra_of K f).mul w (value_of K f N)
        ≡ (algebra_of K f).one)) ⊎ FactorOf f N
    unfolding model model_value
    inverse_or_factor N nonzero = go (value_cases (proper K f) (degree K f) (proper_size K f) N)
      where
        go : (model_value K f N ≡ (model K f).zero)
            ⊎ (((w : (model K f).carrier) × ((model K f).mul w (model_value K f N)
            ≡ (model K f).one)) ⊎ FactorOf (proper K f) N)
            → ((w : E.carrier) × (E.mul w (value_of K f N) ≡ E.one)) ⊎ FactorOf f N
        go (inl e) = absurd (nonzero (to_model_one K f _ _ (to_model_value K f N ∙ e
            ∙ sym (to_model_map K f).on_zero)))
        go (inr (inl w)) = inl (
          of_model K f w.0,
          ap (E.mul (of_model K f w.0))
              (sym (of_model_value K f N)) ∙ sym ((of_model_map K f).on_mul w.0 (model_value K f N))
              ∙ ap (of_model K f) w.1 ∙ (of_model_map K f).on_one,
        )
        go (inr (inr s)) = inr (subst (λ p. FactorOf p N) (proper_is K f nf) s)

    -- and not both
    pub no_inverse_with_factor : (w N : Plane K) → IsDivisorOver K.ring w f
        → IsDivisorOver K.ring w N → 1 < size (polynomials K.ring) w
        → (z : (algebra_of K f).carrier) → ¬ ((algebra_of K f).mul z (value_of K f N)
        ≡ (algebra_of K f).one)
    unfolding model model_value
    no_inverse_with_factor w N df dN positive z e = no_common (proper K f) (degree K f)
        (proper_size K f) w N (subst (IsDivisorOver K.ring w) (sym (proper_is K f nf)) df) dN
        positive (to_model K f z)
        (ap ((model K f).mul (to_model K f z)) (sym (to_model_value K f N))
        ∙ sym ((to_model_map K f).on_mul z (value_of K f N)) ∙ ap (to_model K f) e
        ∙ (to_model_map K f).on_one)

    -- the same for an element by its denominator and numerators
    pub zero_divisor_factor : (d : Poly K.ring) (M : List (Poly K.ring))
        → (polynomials K.ring).same d (polynomials K.ring).zero ≡ false
        → ¬ (element K f d M ≡ (algebra_of K f).zero)
        → ((w : (algebra_of K f).carrier) × ((algebra_of K f).mul w (element K f d M)
        ≡ (algebra_of K f).one)) ⊎ FactorOf f (poly (polynomials K.ring) M)
    unfolding element
    zero_divisor_factor d M nd nonzero = go (inverse_or_factor (poly (polynomials K.ring) M)
        (λ z. nonzero (ap (E.mul (inverse_of K f d)) z ∙ mul_zero E EL (inverse_of K f d))))
      where
        EL : IsCommRing (algebra_of K f)
        EL = algebra_is_ring K f

        go : ((w : E.carrier) × (E.mul w (value_of K f (poly (polynomials K.ring) M)) ≡ E.one))
            ⊎ FactorOf f (poly (polynomials K.ring) M)
            → ((w : E.carrier) × (E.mul w (element K f d M) ≡ E.one))
            ⊎ FactorOf f (poly (polynomials K.ring) M)
        go (inl w) = inl (
          E.mul w.0 (value_of K f (row_of K.ring d)),
          EL.mul_assoc w.0
              (value_of K f (row_of K.ring d)) (element K f d M)
              ∙ ap (E.mul w.0) (element_clear K f d M nd) ∙ w.1,
        )
        go (inr s) = inr s

  -- a plane has an inverse in E(f) exactly where it is coprime to f
  pub coprime_if_inverse : (f N : Plane K) → ¬ (size (polynomials K.ring) f ≡ 0)
      → (z : (algebra_of K f).carrier) → (algebra_of K f).mul z (value_of K f N)
      ≡ (algebra_of K f).one → AreCoprime K.ring f N
  coprime_if_inverse f N nf z e w df dN = go (cases_lt 1 (size (polynomials K.ring) w))
    where
      go : (1 < size (polynomials K.ring) w) ⊎ (size (polynomials K.ring) w ≤ 1)
          → size (polynomials K.ring) w ≤ 1
      go (inl l) = absurd (no_inverse_with_factor f nf w N df dN l z e)
      go (inr l) = l

  pub inverse_if_coprime : (f N : Plane K) → 1 < size (polynomials K.ring) f → AreCoprime K.ring f N
      → (w : (algebra_of K f).carrier) × ((algebra_of K f).mul w (value_of K f N)
      ≡ (algebra_of K f).one)
  inverse_if_coprime f N positive coprime = go (inverse_or_factor f nf N nonzero)
    where
      nf : ¬ (size (polynomials K.ring) f ≡ 0)
      nf e = absurd (omega (arith, e, positive))

      nonzero : ¬ (value_of K f N ≡ (algebra_of K f).zero)
      nonzero e = let l : size (polynomials K.ring) f ≤ 1 = coprime f (divisor_self K f)
          (divides_if_value f N nf e) in absurd (omega (arith, l, positive))

      go : ((w : (algebra_of K f).carrier) × ((algebra_of K f).mul w (value_of K f N)
          ≡ (algebra_of K f).one)) ⊎ FactorOf f N → (w : (algebra_of K f).carrier)
          × ((algebra_of K f).mul w (value_of K f N) ≡ (algebra_of K f).one)
      go (inl w) = w
      go (inr s) = let l : size (polynomials K.ring) s.g ≤ 1 = coprime s.g
          (factored_divides K f s.g s.h s.factored) s.divides in absurd
          (omega (arith, l, s.factored.left_degree))
