-- Polynomials over k(x) as a fraction times a normalised plane; factors over k(x) give factors as
-- planes.
use Rattle.std.proofs.Common.{◌≡◌, ℕ, suc, ◌<◌, ◌≤◌, false, [], ◌∷◌, refl, sym, ◌∙◌, ap, ap₂, arith}
use Rattle.ff_theory.specs.Ring.{RingOps, IsCommRing}
use Rattle.ff_theory.specs.Lawful.{Domain, Field}
use Rattle.ff_theory.specs.Poly.{coeff, Poly, poly, polynomials}
use Rattle.ff_theory.specs.Division.{size}
use Rattle.ff_factors.specs.Factors.{IsPrimitive, IsNormalised, IsPrimitivePart, IsFactored}
use Rattle.ff_factors.specs.Factors.{times_row}
use Rattle.ff_theory.specs.Planes.{IsDivisorOver, planes, Plane}
use Rattle.ff_theory.proofs.Solver.{◌⊕◌, ◌⊗◌, unit, ring1, ring3, ring4, mul_zero, zero_mul}
use Rattle.ff_theory.proofs.Poly.{polynomial_laws}
use Rattle.ff_theory.proofs.Division.{const, const_mul_at, zero_from, size_le}
use Rattle.ff_theory.proofs.Evaluate.{const_map}
use Rattle.ff_theory.proofs.PolyMap.{polynomial_domain, not_same, zero_size}
use Rattle.ff_theory.proofs.FractionField.{whole_one}
use Rattle.ff_theory.proofs.Algebra.{rational, fraction_of, embed, embed_map, embed_one, embed_size}
use Rattle.ff_theory.proofs.Algebra.{embed_row, fconst, Common, common_plane}
use Rattle.ff_theory.proofs.ReducedForms.{common_of, over_cancel}
use Rattle.ff_theory.proofs.FractionForm.{numerator, denominator, denominator_nonzero}
use Rattle.ff_theory.proofs.FractionForm.{fraction_form}
use Rattle.ff_theory.proofs.ElementEuclid.{zero_plane_size}
use Rattle.ff_factors.proofs.Primitive.{factor_exact}
use Rattle.ff_factors.proofs.PrimitivePart.{primitive_part}

-- over a field, a nonzero constant does not change the size
module _ (K : Field) where
  abbrev scaled : K.carrier → Poly K.ring → Poly K.ring
  scaled a p = (polynomials K.ring).mul (const K.ring K.laws K.tests a) p

  pub scale_size : (a : K.carrier) → ¬ (a ≡ K.zero) → (p : Poly K.ring)
      → size K.ring ((polynomials K.ring).mul (const K.ring K.laws K.tests a) p) ≡ size K.ring p
  scale_size a na p = omega (arith, less, more)
    where
      at : (i : ℕ) → coeff K.ring (scaled a p).coeffs i ≡ K.mul a (coeff K.ring p.coeffs i)
      at i = const_mul_at K.ring K.laws K.tests a p i

      less : size K.ring (scaled a p) ≤ size K.ring p
      less = size_le K.ring K.laws K.tests (scaled a p) (size K.ring p) (λ i l. at i
          ∙ ap (K.mul a) (zero_from K.ring K.laws K.tests p i l) ∙ mul_zero K.ring K.laws a)

      more : size K.ring p ≤ size K.ring (scaled a p)
      more = size_le K.ring K.laws K.tests p (size K.ring (scaled a p))
          (λ i l. ring1 K.ring K.laws (λ p. p) (λ p. unit ⊗ p) refl (coeff K.ring p.coeffs i)
          ∙ ap (λ t. K.mul t (coeff K.ring p.coeffs i)) (sym (K.is_field.mul_inverse a na))
          ∙ ring3 K.ring K.laws (λ a i p. a ⊗ i ⊗ p) (λ a i p. i ⊗ (a ⊗ p)) refl a (K.inverse a)
          (coeff K.ring p.coeffs i)
          ∙ ap (K.mul (K.inverse a)) (sym (at i) ∙ zero_from K.ring K.laws K.tests (scaled a p) i l)
          ∙ mul_zero K.ring K.laws (K.inverse a))

module _ (K : Field) where
  abbrev F : Field
  F = rational K

  abbrev D : Domain
  D = polynomial_domain K

  abbrev Q : RingOps
  Q = polynomials F.ring

  QL : IsCommRing (polynomials F.ring)
  QL = polynomial_laws F.ring F.laws F.tests

  pub embed_times : (a : Poly K.ring) (g : Plane K) → embed K (times_row K.ring a g)
      ≡ (polynomials F.ring).mul (fconst K (fraction_of K a)) (embed K g)
  embed_times a g = (embed_map K).on_mul (poly D.ring (a ∷ [])) g
      ∙ ap (λ t. Q.mul t (embed K g)) (embed_row K a)

  pub fraction_nonzero : (a : Poly K.ring) → (polynomials K.ring).same a (polynomials K.ring).zero
      ≡ false → ¬ (fraction_of K a ≡ F.zero)
  fraction_nonzero a na e = not_same D.ring D.tests a D.zero na (whole_one D a D.zero e)

  fconst_mul : (a b : F.carrier) → fconst K (F.mul a b) ≡ Q.mul (fconst K a) (fconst K b)
  fconst_mul a b = (const_map F.ring F.laws F.tests).on_mul a b

  pub fconst_cancel : (a : F.carrier) → ¬ (a ≡ F.zero) → (p : Poly F.ring) → p
      ≡ (polynomials F.ring).mul (fconst K (F.inverse a)) ((polynomials F.ring).mul (fconst K a) p)
  fconst_cancel a na p = ring1 Q QL (λ p. p) (λ p. unit ⊗ p) refl p
      ∙ ap (λ t. Q.mul t p) (sym (const_map F.ring F.laws F.tests).on_one
      ∙ ap (fconst K) (sym (F.laws.mul_comm _ a ∙ F.is_field.mul_inverse a na))
      ∙ fconst_mul (F.inverse a) a) ∙ QL.mul_assoc (fconst K (F.inverse a)) (fconst K a) p

  -- g as a nonzero fraction times a normalised plane
  pub record NormalForm (g : Poly F.ring) : Type 0 where
    pub scale : F.carrier
    pub nonzero : ¬ (scale ≡ F.zero)
    pub plane : Plane K
    pub normalised : IsNormalised K.ring plane
    pub product : g ≡ (polynomials F.ring).mul (fconst K scale) (embed K plane)

  pub normal_size : (g : Poly F.ring) (s : NormalForm g) → size (polynomials K.ring) s.plane
      ≡ size F.ring g
  normal_size g s = sym (embed_size K s.plane)
      ∙ sym (scale_size F s.scale s.nonzero (embed K s.plane)) ∙ ap (size F.ring) (sym s.product)

  pub normal_form : (g : Poly F.ring) (m : ℕ) → size F.ring g ≡ suc m → NormalForm g
  normal_form g m has = from (common_of K g)
    where
      from : Common K g.coeffs → NormalForm g
      from c = make (primitive_part K N N_nonzero)
        where
          N : Plane K
          N = poly D.ring c.nums

          d : F.carrier
          d = fraction_of K c.den

          nd : ¬ (d ≡ F.zero)
          nd = fraction_nonzero c.den c.nonzero

          N_nonzero : ¬ (N ≡ (planes K).zero)
          N_nonzero z = let e : size F.ring g ≡ size D.ring N = sym (scale_size F d nd g)
              ∙ ap (size F.ring) (common_plane K g c) ∙ embed_size K N in
              let none : size D.ring N ≡ 0 = ap (size D.ring) z
              ∙ zero_plane_size K in absurd (omega (arith, e, none, has))

          make : (a : Poly K.ring) × (s : Plane K) × IsPrimitivePart K.ring N a s → NormalForm g
          make p = record {
            scale = e;
            nonzero = e_nonzero;
            plane = p.1;
            normalised =
                p.2.normalised;
            product = whole;
          }
            where
              e : F.carrier
              e = F.mul (F.inverse d) (fraction_of K p.0)

              whole : g ≡ Q.mul (fconst K e) (embed K p.1)
              whole = fconst_cancel d nd g ∙ ap (Q.mul (fconst K (F.inverse d))) (common_plane K g c
                  ∙ ap (embed K) p.2.product ∙ embed_times p.0 p.1)
                  ∙ sym (QL.mul_assoc (fconst K (F.inverse d)) (fconst K (fraction_of K p.0))
                  (embed K p.1)) ∙ ap (λ t. Q.mul t (embed K p.1))
                  (sym (fconst_mul (F.inverse d) (fraction_of K p.0)))

              e_nonzero : ¬ (e ≡ F.zero)
              e_nonzero z = let none : size F.ring g
                  ≡ 0 = ap (size F.ring) (whole ∙ ap (λ t. Q.mul (fconst K t) (embed K p.1)) z
                  ∙ ap (λ t. Q.mul t (embed K p.1)) (const_map F.ring F.laws F.tests).on_zero
                  ∙ zero_mul Q QL (embed K p.1)) ∙ zero_size F in
                  absurd (omega (arith, none, has))

  -- a plane that is a fraction times g * h, with g and h primitive, is a polynomial times g * h
  pub factor_over : (f g h : Plane K) (e : F.carrier) → IsPrimitive K.ring g → IsPrimitive K.ring h
      → embed K f ≡ (polynomials F.ring).mul (fconst K e) (embed K ((planes K).mul g h))
      → (s : Poly K.ring) × (f ≡ times_row K.ring s ((planes K).mul g h))
  factor_over f g h e free_g free_h is = factor_exact K (denominator K e) (numerator K e) f g h
      (denominator_nonzero K e) free_g free_h (embed_one K _ _ (embed_times (denominator K e) f
      ∙ ap (Q.mul (fconst K (fraction_of K (denominator K e)))) is
      ∙ sym (QL.mul_assoc (fconst K (fraction_of K (denominator K e))) (fconst K e) gh)
      ∙ ap (λ t. Q.mul t gh) (sym (fconst_mul (fraction_of K (denominator K e)) e)
      ∙ ap (fconst K) (ap (F.mul (fraction_of K (denominator K e))) (sym (fraction_form K e))
      ∙ over_cancel K (denominator K e) (denominator_nonzero K e) (numerator K e)))
      ∙ sym (embed_times (numerator K e) ((planes K).mul g h))))
    where
      gh : Poly F.ring
      gh = embed K ((planes K).mul g h)

  -- factors over k(x) of positive degree in y give factors that are normalised planes
  pub factored_over : (f : Plane K) (g h : Poly F.ring) (s : NormalForm g) (t : NormalForm h)
      → embed K f ≡ (polynomials F.ring).mul g h → 1 < size F.ring g → 1 < size F.ring h
      → IsFactored K.ring f s.plane t.plane
  factored_over f g h s t e lg lh = record {
    scalar = found.0;
    product = found.1;
    left = s.normalised;
    right = t.normalised;
    left_degree = let k : size D.ring s.plane ≡ size F.ring g = normal_size g s in omega
        (arith, k, lg);
    right_degree = let k : size D.ring t.plane ≡ size F.ring h = normal_size h t in omega
        (arith, k, lh);
  }
    where
      found : (c : Poly K.ring) × (f ≡ times_row K.ring c ((planes K).mul s.plane t.plane))
      found = factor_over f s.plane t.plane (F.mul s.scale t.scale) s.normalised.primitive
          t.normalised.primitive (e ∙ ap₂ Q.mul s.product t.product
          ∙ ring4 Q QL (λ a g b h. (a ⊗ g) ⊗ (b ⊗ h)) (λ a g b h. (a ⊗ b) ⊗ (g ⊗ h)) refl
          (fconst K s.scale) (embed K s.plane) (fconst K t.scale) (embed K t.plane)
          ∙ ap₂ Q.mul (sym (fconst_mul s.scale t.scale))
          (sym ((embed_map K).on_mul s.plane t.plane)))

  -- dividing over k(x), both ways
  pub divisor_over : (g N : Plane K) (u : Poly F.ring) → embed K N
      ≡ (polynomials F.ring).mul u (embed K g) → IsDivisorOver K.ring g N
  divisor_over g N u e = from (common_of K u)
    where
      from : Common K u.coeffs → IsDivisorOver K.ring g N
      from c = record {
        scalar = c.den;
        nonzero = c.nonzero;
        quotient = poly D.ring c.nums;
        product = embed_one K _ _ (embed_times c.den N ∙ ap (Q.mul (fconst K (fraction_of K c.den)))
            e ∙ sym (QL.mul_assoc (fconst K (fraction_of K c.den)) u (embed K g))
            ∙ ap (λ t. Q.mul t (embed K g)) (common_plane K u c)
            ∙ sym ((embed_map K).on_mul (poly D.ring c.nums) g));
      }

  pub over_divisor : (g N : Plane K) → IsDivisorOver K.ring g N → (u : Poly F.ring)
      × (embed K N ≡ (polynomials F.ring).mul u (embed K g))
  over_divisor g N d = (
    Q.mul i (embed K d.quotient),
    fconst_cancel (fraction_of K d.scalar) (fraction_nonzero d.scalar d.nonzero) (embed K N)
        ∙ ap (Q.mul i) (sym (embed_times d.scalar N) ∙ ap (embed K) d.product
        ∙ (embed_map K).on_mul d.quotient g)
        ∙ sym (QL.mul_assoc i (embed K d.quotient) (embed K g)),
  )
    where
      i : Poly F.ring
      i = fconst K (F.inverse (fraction_of K d.scalar))

  pub divisor_self : (g : Plane K) → IsDivisorOver K.ring g g
  divisor_self g = divisor_over g g Q.one (ring1 Q QL (λ g. g) (λ g. unit ⊗ g) refl (embed K g))

  -- a factor of f divides f
  pub factored_divides : (f g h : Plane K) → IsFactored K.ring f g h → IsDivisorOver K.ring g f
  factored_divides f g h s = divisor_over g f (Q.mul (fconst K (fraction_of K s.scalar))
      (embed K h)) (ap (embed K) s.product ∙ embed_times s.scalar ((planes K).mul g h)
      ∙ ap (Q.mul (fconst K (fraction_of K s.scalar))) ((embed_map K).on_mul g h)
      ∙ ring3 Q QL (λ s g h. s ⊗ (g ⊗ h)) (λ s g h. (s ⊗ h) ⊗ g) refl
      (fconst K (fraction_of K s.scalar)) (embed K g) (embed K h))

  pub divisor_trans : (g h N : Plane K) → IsDivisorOver K.ring g h → IsDivisorOver K.ring h N
      → IsDivisorOver K.ring g N
  divisor_trans g h N a b = let u : (u : Poly F.ring)
      × (embed K h ≡ Q.mul u (embed K g)) = over_divisor g h a in let v : (u : Poly F.ring)
      × (embed K N ≡ Q.mul u (embed K h)) = over_divisor h N b in
      divisor_over g N (Q.mul v.0 u.0) (v.1 ∙ ap (Q.mul v.0) u.1
      ∙ sym (QL.mul_assoc v.0 u.0 (embed K g)))

  pub divisor_add : (g M N : Plane K) → IsDivisorOver K.ring g M → IsDivisorOver K.ring g N
      → IsDivisorOver K.ring g ((planes K).add M N)
  divisor_add g M N a b = let u : (u : Poly F.ring)
      × (embed K M ≡ Q.mul u (embed K g)) = over_divisor g M a in let v : (u : Poly F.ring)
      × (embed K N ≡ Q.mul u (embed K g)) = over_divisor g N b in
      divisor_over g ((planes K).add M N) (Q.add u.0 v.0) ((embed_map K).on_add M N
      ∙ ap₂ Q.add u.1 v.1 ∙ ring3 Q QL (λ u v g. u ⊗ g ⊕ v ⊗ g) (λ u v g. (u ⊕ v) ⊗ g) refl u.0
      v.0 (embed K g))

  pub divisor_left : (g M N : Plane K) → IsDivisorOver K.ring g N
      → IsDivisorOver K.ring g ((planes K).mul M N)
  divisor_left g M N a = let u : (u : Poly F.ring)
      × (embed K N ≡ Q.mul u (embed K g)) = over_divisor g N a in
      divisor_over g ((planes K).mul M N) (Q.mul (embed K M) u.0) ((embed_map K).on_mul M N
      ∙ ap (Q.mul (embed K M)) u.1 ∙ sym (QL.mul_assoc (embed K M) u.0 (embed K g)))
