-- Where Euclid's loop ends with the remainder 0: the last remainder but that and its cofactor are
-- factors of f.
use Rattle.std.proofs.Common.{◌≡◌, ℕ, suc, ◌+◌, ◌<◌, false, refl, sym, ◌∙◌, ap, arith}
use Rattle.ff_theory.specs.Ring.{RingOps, IsCommRing}
use Rattle.ff_theory.specs.Lawful.{Domain, Field}
use Rattle.ff_theory.specs.Poly.{Poly, polynomials}
use Rattle.ff_theory.specs.Division.{size}
use Rattle.ff_factors.specs.Factors.{IsPrimitivePart, IsFactored, times_row}
use Rattle.ff_theory.specs.Planes.{IsDivisorOver, planes, Plane}
use Rattle.ff_theory.proofs.Solver.{◌⊕◌, ◌⊗◌, neg, nil, ring3, ring4}
use Rattle.ff_theory.proofs.Poly.{polynomial_laws}
use Rattle.ff_theory.proofs.PolyMap.{polynomial_domain, same_false}
use Rattle.ff_theory.proofs.LowestTerms.{cancel}
use Rattle.ff_theory.proofs.Algebra.{rational, fraction_of, embed, embed_map, embed_one, fconst}
use Rattle.ff_theory.specs.Algebra.{algebra_of, value_of}
use Rattle.ff_theory.proofs.Element.{value_map}
use Rattle.ff_theory.proofs.ElementEuclid.{IsCrossed, plane_size-mul}
use Rattle.ff_factors.proofs.Primitive.{times_row-size}
use Rattle.ff_factors.proofs.NormalForm.{divisor_over, over_divisor, divisor_trans, embed_times}
use Rattle.ff_factors.proofs.NormalForm.{fraction_nonzero, fconst_cancel}
use Rattle.ff_factors.proofs.Factored.{factored_exact, part_divides}
use Rattle.ff_factors.proofs.ZeroDivisors.{divides_if_value}

module _ (K : Field) where
  abbrev F : Field
  F = rational K

  abbrev D : Domain
  D = polynomial_domain K

  abbrev P : RingOps
  P = planes K

  PL : IsCommRing (planes K)
  PL = polynomial_laws D.ring D.laws D.tests

  abbrev Q : RingOps
  Q = polynomials F.ring

  QL : IsCommRing (polynomials F.ring)
  QL = polynomial_laws F.ring F.laws F.tests

  -- c * f is d * u * g, and f divides u * N: then g divides N
  pub cofactor_divides : (f u g N : Plane K) (c d : Poly K.ring)
      → (polynomials K.ring).same c (polynomials K.ring).zero ≡ false → ¬ (u ≡ (planes K).zero)
      → times_row K.ring c f ≡ times_row K.ring d ((planes K).mul u g)
      → IsDivisorOver K.ring f ((planes K).mul u N) → IsDivisorOver K.ring g N
  cofactor_divides f u g N c d nc nu product divides = divisor_over K g N
      (Q.mul (fconst K (F.inverse (fraction_of K c))) (Q.mul t.0 B))
      (fconst_cancel K (fraction_of K c) (fraction_nonzero K c nc) (embed K N)
      ∙ ap (Q.mul (fconst K (F.inverse (fraction_of K c)))) without
      ∙ sym (QL.mul_assoc (fconst K (F.inverse (fraction_of K c))) (Q.mul t.0 B) (embed K g)))
    where
      A : Poly F.ring
      A = fconst K (fraction_of K c)

      B : Poly F.ring
      B = fconst K (fraction_of K d)

      U : Poly F.ring
      U = embed K u

      t : (t : Poly F.ring) × (embed K (P.mul u N) ≡ Q.mul t (embed K f))
      t = over_divisor K f (P.mul u N) divides

      QD : Domain
      QD = polynomial_domain F

      U_nonzero : Q.same U Q.zero ≡ false
      U_nonzero = same_false Q QD.tests U Q.zero
          (λ z. nu (embed_one K u P.zero (z ∙ sym (embed_map K).on_zero)))

      without : Q.mul A (embed K N) ≡ Q.mul (Q.mul t.0 B) (embed K g)
      without = cancel QD _ _ U U_nonzero (ring3 Q QL (λ a n u. (a ⊗ n) ⊗ u) (λ a n u. a ⊗ (u ⊗ n))
          refl A (embed K N) U ∙ ap (Q.mul A) (sym ((embed_map K).on_mul u N) ∙ t.1)
          ∙ ring3 Q QL (λ a t f. a ⊗ (t ⊗ f)) (λ a t f. t ⊗ (a ⊗ f)) refl A t.0 (embed K f)
          ∙ ap (Q.mul t.0) (sym (embed_times K c f) ∙ ap (embed K) product
          ∙ embed_times K d (P.mul u g) ∙ ap (Q.mul B) ((embed_map K).on_mul u g))
          ∙ ring4 Q QL (λ t b u g. t ⊗ (b ⊗ (u ⊗ g))) (λ t b u g. ((t ⊗ b) ⊗ g) ⊗ u) refl t.0 B U
          (embed K g))

  module _ (f r s₀ s : Plane K) (crossed : IsCrossed K f r s₀ (planes K).zero s) where
    crossed_product : times_row K.ring crossed.right f ≡ times_row K.ring crossed.left (P.mul s r)
    crossed_product = sym crossed.cross
        ∙ ap (times_row K.ring crossed.left) (ring3 P PL (λ s r t. s ⊗ r ⊕ neg (t ⊗ nil))
        (λ s r t. s ⊗ r) refl s r s₀)

    -- the degrees in y add up to that of f
    pub crossed_size : (m n : ℕ) → size (polynomials K.ring) r ≡ suc m → size (polynomials K.ring) s
        ≡ suc n → size (polynomials K.ring) f ≡ suc (m + n)
    crossed_size m n hr hs = let e : size D.ring f
        ≡ suc (n + m) = sym (times_row-size K crossed.right f crossed.right_nonzero)
        ∙ ap (size D.ring) crossed_product ∙ times_row-size K crossed.left (P.mul s r)
        crossed.left_nonzero ∙ plane_size-mul K s r n m hs hr in omega (arith, e)

    pub crossed_factored : (a b : Poly K.ring) (g h : Plane K) → IsPrimitivePart K.ring r a g
        → IsPrimitivePart K.ring s b h → 1 < size (polynomials K.ring) r
        → 1 < size (polynomials K.ring) s → IsFactored K.ring f g h
    crossed_factored a b g h pg ph lr ls = factored_exact K f r s g h crossed.right crossed.left a b
        crossed.right_nonzero (crossed_product
        ∙ ap (times_row K.ring crossed.left) (PL.mul_comm s r)) pg ph lr ls

    -- and the first divides what the loop began with
    pub crossed_divides : (N : Plane K) (a : Poly K.ring) (g : Plane K)
        → ¬ (size (polynomials K.ring) f ≡ 0) → ¬ (s ≡ (planes K).zero)
        → (algebra_of K f).mul (value_of K f s) (value_of K f N) ≡ (algebra_of K f).zero
        → IsPrimitivePart K.ring r a g → IsDivisorOver K.ring g N
    crossed_divides N a g nf ns e pg = divisor_trans K g r N (part_divides K r a g pg)
        (cofactor_divides f s r N crossed.right crossed.left crossed.right_nonzero ns
        crossed_product (divides_if_value K f (P.mul s N) nf ((value_map K f).on_mul s N ∙ e)))
