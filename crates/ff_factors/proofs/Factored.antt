-- Factors of a plane, times a polynomial in x, give normalised factors; a plane without them is
-- irreducible over k(x).
use Rattle.std.proofs.Common.{◌≡◌, ℕ, zero, suc, ◌<◌, ◌≤◌, ◌⊎◌, inl, inr, false, refl, sym, ◌∙◌, ap}
use Rattle.std.proofs.Common.{ap₂, arith}
use Rattle.std.proofs.lemmas.Bool.{cases_lt}
use Rattle.ff_theory.specs.Ring.{RingOps, IsCommRing}
use Rattle.ff_theory.specs.Lawful.{Domain, Field}
use Rattle.ff_theory.specs.Poly.{Poly, polynomials}
use Rattle.ff_theory.specs.Division.{size}
use Rattle.ff_theory.specs.Divides.{Divides}
use Rattle.ff_factors.specs.Factors.{IsPrimitive, IsPrimitivePart, IsFactored, times_row}
use Rattle.ff_theory.specs.Planes.{IsDivisorOver, planes, Plane, row_of}
use Rattle.ff_theory.proofs.Solver.{◌⊗◌, unit, ring1, ring2, ring3, ring4}
use Rattle.ff_theory.specs.Map.{IsMap}
use Rattle.ff_theory.proofs.Poly.{polynomial_laws}
use Rattle.ff_theory.proofs.Evaluate.{const_map}
use Rattle.ff_theory.proofs.PolyMap.{polynomial_domain}
use Rattle.ff_theory.proofs.Irreducible.{NoFactors}
use Rattle.ff_theory.proofs.ElementEuclid.{zero_plane_size, empty_plane}
use Rattle.ff_factors.proofs.Primitive.{times_row-size, primitive_exact, factor_exact}
use Rattle.ff_factors.proofs.PrimitivePart.{primitive_part, primitive_size, scalar_nonzero}

module _ (K : Field) where
  abbrev D : Domain
  D = polynomial_domain K

  abbrev P : RingOps
  P = planes K

  PL : IsCommRing (planes K)
  PL = polynomial_laws D.ring D.laws D.tests

  row_map : IsMap (polynomials K.ring) (planes K) (row_of K.ring)
  row_map = const_map D.ring D.laws D.tests

  sized_nonzero : (g : Plane K) → 1 < size D.ring g → ¬ (g ≡ P.zero)
  sized_nonzero g l z = let e : size D.ring g ≡ 0 = ap (size D.ring) z
      ∙ zero_plane_size K in absurd (omega (arith, e, l))

  -- c * f is d * g * h: the normalised parts of g and h are factors of f
  pub factored_exact : (f g h s t : Plane K) (c d a b : Poly K.ring)
      → (polynomials K.ring).same c (polynomials K.ring).zero ≡ false → times_row K.ring c f
      ≡ times_row K.ring d ((planes K).mul g h)
      → IsPrimitivePart K.ring g a s → IsPrimitivePart K.ring h b t
      → 1 < size (polynomials K.ring) g → 1 < size (polynomials K.ring) h → IsFactored K.ring f s t
  factored_exact f g h s t c d a b nc product ps pt lg lh = record {
    scalar = found.0;
    product = found.1;
    left = ps.normalised;
    right = pt.normalised;
    left_degree = let e : size D.ring s ≡ size D.ring g = primitive_size K g a s
        (sized_nonzero g lg) ps in omega (arith, e, lg);
    right_degree = let e : size D.ring t ≡ size D.ring h = primitive_size K h b t
        (sized_nonzero h lh) pt in omega (arith, e, lh);
  }
    where
      found : (r : Poly K.ring) × (f ≡ times_row K.ring r (P.mul s t))
      found = factor_exact K c (D.mul d (D.mul a b)) f s t nc ps.normalised.primitive
          pt.normalised.primitive (product
          ∙ ap (times_row K.ring d) (ap₂ P.mul ps.product pt.product
          ∙ ring4 P PL (λ a s b t. (a ⊗ s) ⊗ (b ⊗ t)) (λ a s b t. (a ⊗ b) ⊗ (s ⊗ t)) refl
          (row_of K.ring a) s (row_of K.ring b) t
          ∙ ap (λ r. P.mul r (P.mul s t)) (sym (row_map.on_mul a b)))
          ∙ sym (PL.mul_assoc (row_of K.ring d) (row_of K.ring (D.mul a b)) (P.mul s t))
          ∙ ap (λ r. P.mul r (P.mul s t)) (sym (row_map.on_mul d (D.mul a b))))

  -- normalised factors of f
  pub record Factors (f : Plane K) : Type 0 where
    pub g : Plane K
    pub h : Plane K
    pub factored : IsFactored K.ring f g h

  pub factors_of : (f g h : Plane K) (c : Poly K.ring)
      → (polynomials K.ring).same c (polynomials K.ring).zero ≡ false → times_row K.ring c f
      ≡ (planes K).mul g h
      → 1 < size (polynomials K.ring) g → 1 < size (polynomials K.ring) h → Factors f
  factors_of f g h c nc product lg lh = go (primitive_part K g (sized_nonzero g lg))
      (primitive_part K h (sized_nonzero h lh))
    where
      go : (a : Poly K.ring) × (s : Plane K) × IsPrimitivePart K.ring g a s → (b : Poly K.ring)
          × (t : Plane K) × IsPrimitivePart K.ring h b t → Factors f
      go p q = record {
        g = p.1;
        h = q.1;
        factored = factored_exact f g h p.1 q.1 c D.one p.0 q.0 nc
            (product ∙ ring2 P PL (λ g h. g ⊗ h) (λ g h. unit ⊗ (g ⊗ h)) refl g h
            ∙ ap (λ r. P.mul r (P.mul g h)) (sym row_map.on_one)) p.2 q.2 lg lh;
      }

  -- irreducible over k(x): without normalised factors
  module _ (f : Plane K) (n : ℕ) (has : size (polynomials K.ring) f ≡ suc n) where
    pub irreducible_if_none : ((g h : Plane K) → ¬ IsFactored K.ring f g h) → NoFactors K f n has
    unfolding NoFactors
    irreducible_if_none none c g h nc product = go (cases_lt 1 (size D.ring g))
        (cases_lt 1 (size D.ring h))
      where
        go : (1 < size D.ring g) ⊎ (size D.ring g ≤ 1) → (1 < size D.ring h) ⊎ (size D.ring h ≤ 1)
            → (size D.ring g ≤ 1) ⊎ (size D.ring h ≤ 1)
        go (inr l) k = inl l
        go (inl l) (inr k) = inr k
        go (inl l) (inl k) = let s : Factors f = factors_of f g h c nc (product ∙ PL.mul_comm h g) l
            k in absurd (none s.g s.h s.factored)

    pub none_if_irreducible : NoFactors K f n has → (g h : Plane K) → ¬ IsFactored K.ring f g h
    unfolding NoFactors
    none_if_irreducible irreducible g h s = go (irreducible D.one (times_row K.ring s.scalar g) h
        D.proper (ap (λ r. P.mul r f) row_map.on_one
        ∙ ap (P.mul P.one) s.product ∙ ring3 P PL (λ c g h. unit ⊗ (c ⊗ (g ⊗ h)))
        (λ c g h. h ⊗ (c ⊗ g)) refl (row_of K.ring s.scalar) g h))
      where
        nf : ¬ (f ≡ P.zero)
        nf z = let e : size D.ring f ≡ 0 = ap (size D.ring) z
            ∙ zero_plane_size K in absurd (omega (arith, e, has))

        same : size D.ring (times_row K.ring s.scalar g) ≡ size D.ring g
        same = times_row-size K s.scalar g (scalar_nonzero K f s.scalar (P.mul g h) nf s.product)

        go : (size D.ring (times_row K.ring s.scalar g) ≤ 1) ⊎ (size D.ring h ≤ 1) → ⊥
        go (inl l) = absurd (omega (arith, l, same, s.left_degree))
        go (inr l) = absurd (omega (arith, l, s.right_degree))

  -- a normalised part divides its plane
  pub part_divides : (g : Plane K) (c : Poly K.ring) (s : Plane K) → IsPrimitivePart K.ring g c s
      → IsDivisorOver K.ring s g
  part_divides g c s h = record {
    scalar = D.one;
    nonzero = D.proper;
    quotient = row_of K.ring c;
    product = ap (λ r. P.mul r g) row_map.on_one ∙ ring1 P PL (λ g. unit ⊗ g) (λ g. g) refl g
        ∙ h.product;
  }

  -- what divides N over k(x) and has no common factor of its rows divides N
  pub divisor_exact : (g N : Plane K) → IsPrimitive K.ring g → IsDivisorOver K.ring g N
      → Divides (planes K) g N
  divisor_exact g N free d = go (size D.ring d.quotient) refl
    where
      go : (k : ℕ) → size D.ring d.quotient ≡ k → Divides P g N
      go zero e = let s : (r : Poly K.ring) × (N ≡ times_row K.ring r g) = primitive_exact K
          d.scalar D.zero N g d.nonzero free (d.product
          ∙ ap (λ q. P.mul q g) (empty_plane K d.quotient e ∙ sym row_map.on_zero)) in
          (row_of K.ring s.0, s.1)
      go (suc k) e = more (primitive_part K d.quotient (λ z. let none : size D.ring d.quotient
          ≡ 0 = ap (size D.ring) z ∙ zero_plane_size K in absurd (omega (arith, e, none))))
        where
          more : (a : Poly K.ring) × (s : Plane K) × IsPrimitivePart K.ring d.quotient a s
              → Divides P g N
          more q = let s : (r : Poly K.ring) × (N ≡ times_row K.ring r (P.mul q.1 g)) = factor_exact
              K d.scalar q.0 N q.1 g d.nonzero q.2.normalised.primitive free (d.product
              ∙ ap (λ t. P.mul t g) q.2.product ∙ PL.mul_assoc (row_of K.ring q.0) q.1 g) in
              (P.mul (row_of K.ring s.0) q.1, s.1 ∙ sym (PL.mul_assoc (row_of K.ring s.0) q.1 g))
