-- The field k(x), planes as polynomials in y over it, and the algebra k(x)[y]/f; which planes have
-- the value 0 in it.
use Rattle.std.proofs.Common.{◌≡◌, ℕ, zero, suc, false, List, [], ◌∷◌, refl, sym, ◌∙◌, ap}
use mathlib.Core.Logic.{∥∥₁_prop}
use mathlib.Core.Quot.{ind, sound}
use Rattle.ff_theory.specs.Ring.{RingOps, IsCommRing, IsTested}
use Rattle.ff_theory.specs.Lawful.{Domain, Field}
use Rattle.ff_theory.specs.Planes.{planes, Plane, row_of, IsDivisorOver}
use Rattle.ff_theory.specs.Poly.{coeff, Poly, poly, polynomials, list_scale}
use Rattle.ff_theory.specs.Division.{size}
use Rattle.ff_theory.proofs.Solver.{◌⊕◌, ◌⊗◌, nil, unit, ring1, ring3, mul_zero}
use Rattle.ff_theory.specs.Map.{IsMap}
use Rattle.ff_theory.proofs.Poly.{Poly_ext, trim-coeff, scale-coeff, polynomial_laws}
use Rattle.ff_theory.proofs.Division.{const, const_mul_at}
use Rattle.ff_theory.proofs.FractionField.{Raw, Frac, frac, fraction_field, frac_mul, whole}
use Rattle.ff_theory.proofs.FractionField.{whole_map, whole_one}
use Rattle.ff_theory.proofs.PolyMap.{map_poly, map_at, map_poly_map, map_poly_one, map_poly_size}
use Rattle.ff_theory.proofs.PolyMap.{compose, polynomial_domain, not_same}
use Rattle.ff_theory.proofs.QuotientUnits.{residues_of, class_of, residue_laws, residue_map}
use Rattle.ff_theory.proofs.QuotientUnits.{residue_tests, class_equal, class_differ}

module _ (K : Field) where
  -- the field of fractions of the polynomials over K
  abbrev pub rational : Field
  rational = fraction_field (polynomial_domain K)

  abbrev R : Domain
  R = polynomial_domain K

  -- a polynomial in x as a fraction
  abbrev pub fraction_of : Poly K.ring → Frac (polynomial_domain K)
  fraction_of a = whole (polynomial_domain K) a

  -- a plane as a polynomial in y over the fractions
  unfoldable pub embed : Plane K → Poly rational.ring
  embed N = map_poly R.ring rational.ring R.laws R.tests rational.laws rational.tests fraction_of
      (whole_map R) N

  pub embed_at : (N : Plane K) (i : ℕ) → coeff rational.ring (embed N).coeffs i
      ≡ fraction_of (coeff R.ring N.coeffs i)
  unfolding embed
  embed_at N i = map_at R.ring rational.ring R.laws R.tests rational.laws rational.tests fraction_of
      (whole_map R) N i

  pub embed_map : IsMap (planes K) (polynomials rational.ring) embed
  unfolding embed
  embed_map = map_poly_map R.ring rational.ring R.laws R.tests rational.laws rational.tests
      fraction_of (whole_map R)

  pub embed_one : (M N : Plane K) → embed M ≡ embed N → M ≡ N
  unfolding embed
  embed_one = map_poly_one R.ring rational.ring R.laws R.tests rational.laws rational.tests
      fraction_of (whole_map R) (whole_one R)

  pub embed_size : (N : Plane K) → size rational.ring (embed N) ≡ size R.ring N
  unfolding embed
  embed_size = map_poly_size R.ring rational.ring R.laws R.tests rational.laws rational.tests
      fraction_of (whole_map R) (whole_one R)

  abbrev row : Poly K.ring → Plane K
  row c = row_of K.ring c

  abbrev pub fconst : Frac (polynomial_domain K) → Poly rational.ring
  fconst c = const rational.ring rational.laws rational.tests c

  pub embed_row : (c : Poly K.ring) → embed (row c) ≡ fconst (fraction_of c)
  unfolding poly
  embed_row c = Poly_ext rational.ring rational.laws rational.tests _ _ (λ i. embed_at (row c) i
      ∙ ap fraction_of (trim-coeff R.ring R.laws R.tests (c ∷ []) i) ∙ go i
      ∙ sym (trim-coeff rational.ring rational.laws rational.tests (fraction_of c ∷ []) i))
    where
      go : (i : ℕ) → fraction_of (coeff R.ring (c ∷ []) i)
          ≡ coeff rational.ring (fraction_of c ∷ []) i
      go zero = refl
      go (suc i) = refl

  -- a common denominator of a list of fractions
  pub record Common (us : List rational.carrier) : Type 0 where
    pub den : Poly K.ring
    pub nonzero : (polynomials K.ring).same den (polynomials K.ring).zero ≡ false
    pub nums : List (Poly K.ring)
    pub clears : (i : ℕ) → rational.mul (fraction_of den) (coeff rational.ring us i)
        ≡ fraction_of (coeff R.ring nums i)

  common_step : (p : Raw (polynomial_domain K)) (us : List rational.carrier) → Common us
      → Common (frac (polynomial_domain K) p ∷ us)
  unfolding frac_mul
  common_step p us c = record {
    den = R.mul p.den c.den;
    nonzero = R.no_divisors p.den c.den p.nonzero c.nonzero;
    nums = R.mul c.den p.num ∷ list_scale R.ring p.den c.nums;
    clears = go;
  }
    where
      head : rational.mul (fraction_of (R.mul p.den c.den)) (frac (polynomial_domain K) p)
          ≡ fraction_of (R.mul c.den p.num)
      head = sound (ring3 R.ring R.laws (λ a b c. ((b ⊗ c) ⊗ a) ⊗ unit)
          (λ a b c. (c ⊗ a) ⊗ (unit ⊗ b)) refl p.num p.den c.den)

      go : (i : ℕ) → rational.mul (fraction_of (R.mul p.den c.den))
          (coeff rational.ring (frac (polynomial_domain K) p ∷ us) i)
          ≡ fraction_of (coeff R.ring (R.mul c.den p.num ∷ list_scale R.ring p.den c.nums) i)
      go zero = head
      go (suc i) = ap (λ t. rational.mul t (coeff rational.ring us i))
          ((whole_map R).on_mul p.den c.den) ∙ rational.laws.mul_assoc (fraction_of p.den)
          (fraction_of c.den) (coeff rational.ring us i)
          ∙ ap (rational.mul (fraction_of p.den)) (c.clears i)
          ∙ sym ((whole_map R).on_mul p.den (coeff R.ring c.nums i))
          ∙ ap fraction_of (sym (scale-coeff R.ring R.laws R.tests p.den c.nums i))

  pub common : (us : List rational.carrier) → ∥ Common us ∥₁
  common [] = ∣ record {
    den = R.one;
    nonzero = R.proper;
    nums = [];
    clears = λ i. mul_zero
        rational.ring rational.laws (fraction_of R.one);
  } ∣₁
  common (u ∷ us) = ind {β = λ u. ∥ Common (u ∷ us) ∥₁} (λ u. ∥∥₁_prop)
      (λ p. ∥∥₁_rec ∥∥₁_prop (λ c. ∣ common_step p us c ∣₁) (common us)) u

  -- the same for a polynomial over the fractions
  pub common_plane : (u : Poly rational.ring) (c : Common u.coeffs)
      → (polynomials rational.ring).mul (fconst (fraction_of c.den)) u ≡ embed (poly R.ring c.nums)
  unfolding poly
  common_plane u c = Poly_ext rational.ring rational.laws rational.tests _ _
      (λ i. const_mul_at rational.ring rational.laws rational.tests (fraction_of c.den) u i
      ∙ c.clears i ∙ ap fraction_of (sym (trim-coeff R.ring R.laws R.tests c.nums i))
      ∙ sym (embed_at (poly R.ring c.nums) i))

  -- the algebra of a plane f with n + 1 rows
  module _ (f : Plane K) (n : ℕ) (has : size (polynomials K.ring) f ≡ suc n) where
    abbrev pub algebra : RingOps
    algebra = residues_of rational (embed f) n (embed_size f ∙ has)

    abbrev pub algebra_class : Poly rational.ring → algebra.carrier
    algebra_class = class_of rational (embed f) n (embed_size f ∙ has)

    pub algebra_laws : IsCommRing algebra
    algebra_laws = residue_laws rational (embed f) n (embed_size f ∙ has)

    pub algebra_tests : IsTested algebra
    algebra_tests = residue_tests rational (embed f) n (embed_size f ∙ has)

    -- the value of a plane at x and y
    unfoldable pub plane_value : Plane K → algebra.carrier
    plane_value N = algebra_class (embed N)

    pub plane_value_map : IsMap (planes K) algebra plane_value
    unfolding plane_value
    plane_value_map = compose (planes K) (polynomials rational.ring) algebra embed algebra_class
        embed_map (residue_map rational (embed f) n (embed_size f ∙ has))

    PL : IsCommRing (polynomials rational.ring)
    PL = polynomial_laws rational.ring rational.laws rational.tests

    pub equation_zero : plane_value f ≡ algebra.zero
    unfolding plane_value
    equation_zero = class_equal rational (embed f) n (embed_size f ∙ has) (embed f)
        (polynomials rational.ring).zero (polynomials rational.ring).one
        (ring1 (polynomials rational.ring) PL (λ f. f) (λ f. nil ⊕ unit ⊗ f) refl (embed f))
        ∙ (residue_map rational (embed f) n (embed_size f ∙ has)).on_zero

    pub fconst_inverse : (a : Frac (polynomial_domain K)) → ¬ (a ≡ rational.zero)
        → (polynomials rational.ring).mul (fconst (rational.inverse a)) (fconst a)
        ≡ (polynomials rational.ring).one
    unfolding poly
    fconst_inverse a na = Poly_ext rational.ring rational.laws rational.tests _ _
        (λ i. const_mul_at rational.ring rational.laws rational.tests (rational.inverse a)
        (fconst a) i ∙ ap (rational.mul (rational.inverse a))
        (trim-coeff rational.ring rational.laws rational.tests (a ∷ []) i) ∙ go i
        ∙ sym (trim-coeff rational.ring rational.laws rational.tests (rational.one ∷ []) i))
      where
        go : (i : ℕ) → rational.mul (rational.inverse a) (coeff rational.ring (a ∷ []) i)
            ≡ coeff rational.ring (rational.one ∷ []) i
        go zero = rational.laws.mul_comm _ _ ∙ rational.is_field.mul_inverse a na
        go (suc i) = mul_zero rational.ring rational.laws _

    pub zero_if_divides : (N : Plane K) → IsDivisorOver K.ring f N → plane_value N ≡ algebra.zero
    unfolding plane_value
    zero_if_divides N d = class_equal rational (embed f) n (embed_size f ∙ has) (embed N)
        (polynomials rational.ring).zero ((polynomials rational.ring).mul i (embed d.quotient)) (
        ring1 (polynomials rational.ring) PL (λ N. N) (λ N. unit ⊗ N) refl (embed N)
        ∙ ap (λ t. (polynomials rational.ring).mul t (embed N))
        (sym (fconst_inverse (fraction_of d.scalar) na))
        ∙ (polynomial_laws rational.ring rational.laws rational.tests).mul_assoc i
        (fconst (fraction_of d.scalar)) (embed N)
        ∙ ap ((polynomials rational.ring).mul i)
        (ap (λ t. (polynomials rational.ring).mul t (embed N)) (sym (embed_row d.scalar))
        ∙ sym (embed_map.on_mul (row d.scalar) N) ∙ ap embed d.product
        ∙ embed_map.on_mul d.quotient f)
        ∙ ring3 (polynomials rational.ring) PL (λ i h f. i ⊗ (h ⊗ f)) (λ i h f. nil ⊕ (i ⊗ h) ⊗ f)
        refl i (embed d.quotient) (embed f))
        ∙ (residue_map rational (embed f) n (embed_size f ∙ has)).on_zero
      where
        na : ¬ (fraction_of d.scalar ≡ rational.zero)
        na e = not_same R.ring R.tests d.scalar R.zero d.nonzero (whole_one R d.scalar R.zero e)

        i : Poly rational.ring
        i = fconst (rational.inverse (fraction_of d.scalar))

    pub divides_if_zero : (N : Plane K) → plane_value N ≡ algebra.zero
        → ∥ IsDivisorOver K.ring f N ∥₁
    unfolding plane_value
    divides_if_zero N e = ∥∥₁_rec ∥∥₁_prop (λ c. ∣ from c ∣₁) (common u.coeffs)
      where
        found : (u : Poly rational.ring)
            × (embed N ≡ (polynomials rational.ring).add (polynomials rational.ring).zero
            ((polynomials rational.ring).mul u (embed f)))
        found = class_differ rational (embed f) n (embed_size f ∙ has) (embed N)
            (polynomials rational.ring).zero (e
            ∙ sym (residue_map rational (embed f) n (embed_size f ∙ has)).on_zero)

        u : Poly rational.ring
        u = found.0

        from : Common u.coeffs → IsDivisorOver K.ring f N
        from c = record {
          scalar = c.den;
          nonzero = c.nonzero;
          quotient = poly R.ring c.nums;
          product = embed_one _ _ (embed_map.on_mul (row c.den) N
              ∙ ap (λ t. (polynomials rational.ring).mul t (embed N)) (embed_row c.den)
              ∙ ap ((polynomials rational.ring).mul (fconst (fraction_of c.den))) found.1
              ∙ ring3 (polynomials rational.ring) PL (λ c u f. c ⊗ (nil ⊕ u ⊗ f))
              (λ c u f. (c ⊗ u) ⊗ f) refl (fconst (fraction_of c.den)) u (embed f)
              ∙ ap (λ t. (polynomials rational.ring).mul t (embed f)) (common_plane u c)
              ∙ sym (embed_map.on_mul (poly R.ring c.nums) f));
        }
