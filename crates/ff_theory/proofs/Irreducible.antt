-- Where f has no factors, k(x)[y]/f is a field.
use Rattle.std.proofs.Common.{◌≡◌, ℕ, zero, suc, ◌+◌, ◌≤◌, ◌⊎◌, inl, inr, false, refl, sym, ◌∙◌, ap}
use Rattle.std.proofs.Common.{ap₂, arith}
use Rattle.ff_theory.specs.Ring.{RingOps, IsCommRing, IsField}
use Rattle.ff_theory.specs.Lawful.{Domain, Field}
use Rattle.ff_theory.specs.Poly.{Poly, poly, polynomials}
use Rattle.ff_theory.specs.Division.{size}
use Rattle.ff_theory.proofs.Solver.{◌⊕◌, ◌⊗◌, nil, unit, ring1, ring3, ring4, mul_zero}
use Rattle.ff_theory.proofs.Poly.{polynomial_laws}
use Rattle.ff_theory.proofs.Division.{size-mul}
use Rattle.ff_theory.proofs.PolyMap.{polynomial_domain, zero_size}
use Rattle.ff_theory.proofs.Gcd.{no_size}
use Rattle.ff_theory.proofs.Quotient.{Class}
use Rattle.ff_theory.proofs.QuotientUnits.{IsIrreducible, one_not_zero, inverse_or_divisor}
use Rattle.ff_theory.proofs.QuotientUnits.{inverse_if_irreducible, residues_of, residue_laws}
use Rattle.ff_theory.proofs.QuotientUnits.{class_differ, residue_map}
use Rattle.ff_theory.proofs.Algebra.{rational, fraction_of, embed, embed_map, embed_one, embed_size}
use Rattle.ff_theory.proofs.Algebra.{embed_row, fconst, Common, common_plane, algebra, plane_value}
use Rattle.ff_theory.specs.Planes.{planes, Plane, row_of, IsDivisorOver}
use Rattle.ff_theory.proofs.ReducedForms.{common_of}
use Rattle.ff_theory.proofs.Proper.{row_size}
use Rattle.ff_theory.proofs.Evaluate.{const_map}

-- classes modulo a polynomial over a field: inverses, with 0 where there is none
module _ (K : Field) (b : Poly K.ring) (n : ℕ) (has : size K.ring b ≡ suc n) where
  abbrev Q : RingOps
  Q = residues_of K b n has

  QL : IsCommRing (residues_of K b n has)
  QL = residue_laws K b n has

  abbrev pub pick : (a : Class K.ring n)
      → ((w : Class K.ring n) × ((residues_of K b n has).mul w a ≡ (residues_of K b n has).one))
      ⊎ ((u : Class K.ring n) × ((¬ (u ≡ (residues_of K b n has).zero))
      × ((residues_of K b n has).mul a u ≡ (residues_of K b n has).zero))) → Class K.ring n
  pick a (inl w) = w.0
  pick a (inr u) = (residues_of K b n has).zero

  unfoldable pub class_inverse : Class K.ring n → Class K.ring n
  class_inverse a = pick a (inverse_or_divisor K b n has a)

  pub class_field : IsIrreducible K b n has → 1 ≤ n → IsField (residues_of K b n has) class_inverse
  unfolding class_inverse
  class_field irr p = record {
    one_not_zero = one_not_zero K b n has p;
    mul_inverse = λ a na. go a na (inverse_or_divisor K b n has a);
  }
    where
      go : (a : Class K.ring n) → ¬ (a ≡ Q.zero) → (s : ((w : Class K.ring n) × (Q.mul w a ≡ Q.one))
          ⊎ ((u : Class K.ring n) × ((¬ (u ≡ Q.zero)) × (Q.mul a u ≡ Q.zero)))) → Q.mul a (pick a s)
          ≡ Q.one
      go a na (inl w) = QL.mul_comm a w.0 ∙ w.1
      go a na (inr u) = let w : (w : Class K.ring n) × (Q.mul w a ≡ Q.one) = inverse_if_irreducible
          K b n has irr a na in
          absurd (u.1.0 (ring1 Q QL (λ u. u) (λ u. unit ⊗ u) refl u.0
          ∙ ap (λ t. Q.mul t u.0) (sym w.1) ∙ QL.mul_assoc w.0 a u.0 ∙ ap (Q.mul w.0) u.1.1
          ∙ mul_zero Q QL w.0))

module _ (K : Field) (f : Plane K) (n : ℕ) (has : size (polynomials K.ring) f ≡ suc n) where
  abbrev F : Field
  F = rational K

  FL : IsCommRing (polynomials F.ring)
  FL = polynomial_laws F.ring F.laws F.tests

  -- f divides c * N for some nonzero c, where the value of N is 0
  pub divides_over : (N : Plane K) → plane_value K f n has N ≡ (algebra K f n has).zero
      → IsDivisorOver K.ring f N
  unfolding plane_value
  divides_over N e = from (common_of K found.0)
    where
      found : (u : Poly F.ring) × (embed K N ≡ (polynomials F.ring).add (polynomials F.ring).zero
          ((polynomials F.ring).mul u (embed K f)))
      found = class_differ F (embed K f) n (embed_size K f ∙ has) (embed K N)
          (polynomials F.ring).zero (e
          ∙ sym (residue_map F (embed K f) n (embed_size K f ∙ has)).on_zero)

      from : Common K found.0.coeffs → IsDivisorOver K.ring f N
      from c = record {
        scalar = c.den;
        nonzero = c.nonzero;
        quotient = poly (polynomials K.ring) c.nums;
        product = embed_one K _ _ ((embed_map K).on_mul (row_of K.ring c.den) N
            ∙ ap (λ t. (polynomials F.ring).mul t (embed K N)) (embed_row K c.den)
            ∙ ap ((polynomials F.ring).mul (fconst K (fraction_of K c.den))) found.1
            ∙ ring3 (polynomials F.ring) FL (λ c u f. c ⊗ (nil ⊕ u ⊗ f)) (λ c u f. (c ⊗ u) ⊗ f) refl
            (fconst K (fraction_of K c.den)) found.0 (embed K f)
            ∙ ap (λ t. (polynomials F.ring).mul t (embed K f)) (common_plane K found.0 c)
            ∙ sym ((embed_map K).on_mul (poly (polynomials K.ring) c.nums) f));
      }

  -- the fraction-free meaning of irreducible: no nonzero c has c * f = g * h with g and h of
  -- positive degree in y
  unfoldable pub NoFactors : Type 0
  NoFactors = (c : Poly K.ring) (g h : Plane K)
      → (polynomials K.ring).same c (polynomials K.ring).zero ≡ false
      → (planes K).mul (row_of K.ring c) f ≡ (planes K).mul h g
      → (size (polynomials K.ring) g ≤ 1) ⊎ (size (polynomials K.ring) h ≤ 1)

  -- clearing a denominator does not change the size
  clear_size : (u : Poly F.ring) (c : Common K u.coeffs)
      → size (polynomials K.ring) (poly (polynomials K.ring) c.nums) ≡ size F.ring u
  clear_size u c = sym (embed_size K (poly (polynomials K.ring) c.nums))
      ∙ ap (size F.ring) (sym (common_plane K u c)) ∙ go (size F.ring u) refl
    where
      const_one : size F.ring (fconst K (fraction_of K c.den)) ≡ 1
      const_one = ap (size F.ring) (sym (embed_row K c.den)) ∙ embed_size K (row_of K.ring c.den)
          ∙ row_size K c.den c.nonzero

      go : (k : ℕ) → size F.ring u ≡ k
          → size F.ring ((polynomials F.ring).mul (fconst K (fraction_of K c.den)) u)
          ≡ size F.ring u
      go zero e = ap (λ t. size F.ring ((polynomials F.ring).mul (fconst K (fraction_of K c.den))
          t)) (no_size F u e)
          ∙ ap (size F.ring) (mul_zero (polynomials F.ring) FL (fconst K (fraction_of K c.den)))
          ∙ zero_size F ∙ sym e
      go (suc k) e = let x : size F.ring ((polynomials F.ring).mul (fconst K (fraction_of K c.den))
          u) ≡ suc (0 + k) = size-mul F
          (fconst K (fraction_of K c.den)) u 0 k const_one e in omega (arith, x, e)

  pub irreducible_by_planes : NoFactors → IsIrreducible F (embed K f) n (embed_size K f ∙ has)
  unfolding NoFactors IsIrreducible
  irreducible_by_planes none g t e = go (none (D.mul ct.den cg.den) (poly D.ring cg.nums)
      (poly D.ring ct.nums) (D.no_divisors ct.den cg.den ct.nonzero cg.nonzero) product)
    where
      D : Domain
      D = polynomial_domain K

      cg : Common K g.coeffs
      cg = common_of K g

      ct : Common K t.coeffs
      ct = common_of K t

      product : (planes K).mul (row_of K.ring (D.mul ct.den cg.den)) f
          ≡ (planes K).mul (poly D.ring ct.nums) (poly D.ring cg.nums)
      product = embed_one K _ _ ((embed_map K).on_mul (row_of K.ring (D.mul ct.den cg.den)) f
          ∙ ap₂ (polynomials F.ring).mul
          (ap (embed K) ((const_map D.ring D.laws D.tests).on_mul ct.den cg.den)
          ∙ (embed_map K).on_mul (row_of K.ring ct.den) (row_of K.ring cg.den)
          ∙ ap₂ (polynomials F.ring).mul (embed_row K ct.den) (embed_row K cg.den)) e
          ∙ ring4 (polynomials F.ring) FL (λ c d t g. (c ⊗ d) ⊗ (t ⊗ g))
          (λ c d t g. (c ⊗ t) ⊗ (d ⊗ g)) refl (fconst K (fraction_of K ct.den))
          (fconst K (fraction_of K cg.den)) t g
          ∙ ap₂ (polynomials F.ring).mul (common_plane K t ct) (common_plane K g cg)
          ∙ sym ((embed_map K).on_mul (poly D.ring ct.nums) (poly D.ring cg.nums)))

      go : (size D.ring (poly D.ring cg.nums) ≤ 1) ⊎ (size D.ring (poly D.ring ct.nums) ≤ 1)
          → (size F.ring g ≤ 1) ⊎ (size F.ring t ≤ 1)
      go (inl l) = let x : size D.ring (poly D.ring cg.nums)
          ≡ size F.ring g = clear_size g cg in inl (omega (arith, x, l))
      go (inr l) = let x : size D.ring (poly D.ring ct.nums)
          ≡ size F.ring t = clear_size t ct in inr (omega (arith, x, l))

  -- the algebra of an irreducible equation as a field
  pub algebra_field : NoFactors → 1 ≤ n
      → IsField (algebra K f n has) (class_inverse F (embed K f) n (embed_size K f ∙ has))
  algebra_field none p = class_field F (embed K f) n (embed_size K f ∙ has)
      (irreducible_by_planes none) p
