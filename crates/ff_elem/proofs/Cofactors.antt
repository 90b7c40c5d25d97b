-- Factors of an equation from the end of Euclid's algorithm on it and an element without inverse.
use Rattle.std.proofs.Common.{◌≡◌, ℕ, zero, suc, ◌-◌, ◌<◌, List, [], ◌∷◌, length}
use Rattle.std.proofs.Common.{Result, Ok, Err, IfOk, get_or, refl, sym, ◌∙◌, ap, subst, arith}
use Rattle.ff_theory.specs.Ring.{RingOps, IsCommRing, Elements}
use Rattle.ff_theory.specs.Lawful.{Lawful, lawful_field, Domain, Field}
use Rattle.ff_theory.specs.Poly.{Poly, poly, polynomials, coeff}
use Rattle.ff_theory.specs.Division.{size}
use Rattle.ff_theory.specs.LowestTerms.{IsLowest}
use Rattle.ff_theory.specs.Planes.{planes, Plane, row_of}
use Rattle.ff_theory.specs.Algebra.{over_of}
use Rattle.ff_theory.specs.Values.{poly_of, polys_of, plane_of, IsPlane, IsPoly}
use Rattle.ff_theory.proofs.Solver.{◌⊕◌, ◌⊗◌, neg, nil, ring2, mul_zero}
use Rattle.ff_theory.proofs.Poly.{polynomial_laws, trim-coeff}
use Rattle.ff_theory.proofs.PolyMap.{polynomial_domain}
use Rattle.ff_theory.proofs.Element.{algebra_is_ring, value_map, inverse_exact, cancel_row}
use Rattle.ff_theory.proofs.Element.{element_clear}
use Rattle.ff_theory.proofs.ElementEuclid.{IsCrossed, zero_plane_size}
use Rattle.ff_factors.specs.Factors.{IsPrimitivePart}
use Rattle.ff_factors.proofs.PrimitivePart.{primitive_of_lowest}
use Rattle.ff_factors.proofs.EuclidFactors.{crossed_factored, crossed_divides}
use Rattle.ff_elem.specs.Elem.{algebra_in, elem_of, plane_in, IsElem}
use Rattle.ff_elem.specs.Euclid.{top, AreLast, AreCofactors}
use Rattle.ff_elem.specs.Factors.{IsPartOf, AreFactors}
use Rattle.ff_elem.specs.declared.elem.Elem.{Elem}
use Rattle.ff_elem.specs.declared.euclid.Multiple.{Multiple}
use Rattle.ff_elem.proofs.PolyLemmas.{poly-nonzero}
use Rattle.ff_elem.proofs.Reduction.{plane-size, last-row}
use Rattle.ff_elem.proofs.Quotients.{not-empty, zero-rows, element-nonzero}
use Rattle.ff_elem.proofs.Inverses.{nothing-left}

-- what follows from four facts of a result
pub ok_four : {T E : Type 0} (P Q S U V : T → Type 0) (r : Result T E)
    → ((x : T) → P x → Q x → S x → U x → V x) → IfOk r P → IfOk r Q → IfOk r S → IfOk r U
    → IfOk r V
ok_four P Q S U V (Ok x) f p q s u = f x p q s u
ok_four P Q S U V (Err e) f p q s u = p

module _ (K : Elements ℕ) (L : Lawful K) where
  abbrev F : Field
  F = lawful_field L

  abbrev D : Domain
  D = polynomial_domain (lawful_field L)

  abbrev P : RingOps
  P = planes (lawful_field L)

  PL : IsCommRing (planes (lawful_field L))
  PL = polynomial_laws D.ring D.laws D.tests

  -- the rows over the highest one in lowest terms are those of the normalised part
  pub part-of-lowest : (a part : List (List ℕ)) (n : ℕ) (t d : List ℕ) (M : List (List ℕ))
      → IsPlane K a → length a ≡ suc n → t ≡ get_or a n t
      → IsLowest (lawful_field L) (length a) (poly_of K d) (polys_of K M)
      → ((i : ℕ) → i < length a → (polynomials K.ring).mul (coeff (polynomials K.ring)
      (polys_of K M) i) (poly_of K t)
      ≡ (polynomials K.ring).mul (coeff (polynomials K.ring) (polys_of K a) i) (poly_of K d))
      → plane_of K part ≡ plane_of K M → IsPartOf K a part
  unfolding poly
  part-of-lowest a part n t d M ha long top low equal same = record {
    content = found.0;
    primitive = subst (IsPrimitivePart K.ring (plane_of K a) found.0) (sym same) found.1;
  }
    where
      rows-at : (i : ℕ) → coeff D.ring (plane_of K a).coeffs i ≡ coeff D.ring (polys_of K a) i
      rows-at i = trim-coeff D.ring D.laws D.tests (polys_of K a) i

      entry : (xs : List (List ℕ)) (i : ℕ) (x : List ℕ) → i < length xs → coeff D.ring
          (polys_of K xs) i ≡ poly_of K (get_or xs i x)
      entry [] i x l = absurd (omega arith)
      entry (y ∷ xs) zero x l = refl
      entry (y ∷ xs) (suc i) x l = entry xs i x (omega arith)

      top-row : poly_of K t ≡ coeff D.ring (plane_of K a).coeffs n
      top-row = ap (poly_of K) top ∙ sym (entry a n t (omega (arith, long))) ∙ sym (rows-at n)

      found : (c : Poly K.ring) × IsPrimitivePart K.ring (plane_of K a) c (plane_of K M)
      found = primitive_of_lowest F (plane_of K a) n (plane-size K L a ha ∙ long) (poly_of K d)
          (polys_of K M) (subst (λ m. IsLowest F m (poly_of K d) (polys_of K M)) long low)
          (λ i l. ap (D.mul (coeff D.ring (polys_of K M) i)) (sym top-row)
          ∙ equal i (omega (arith, l, long)) ∙ ap (λ r. D.mul r (poly_of K d)) (sym (rows-at i)))

  module _ (f : List (List ℕ)) (hf : IsPlane K f) (has : 1 < length f) (a : Elem)
      (ha : IsElem L f a) (before last : Multiple) (end : AreLast L f a.num before last) where
    abbrev A : RingOps
    A = algebra_in L f

    AL : IsCommRing (algebra_in L f)
    AL = algebra_is_ring (lawful_field L) (plane_of K f)

    f-some : ¬ (size (polynomials K.ring) (plane_of K f) ≡ 0)
    f-some = not-empty K L f (length f - 1) hf
        (let e : length f ≡ suc (length f - 1) = omega (arith, has) in e)

    -- an element without inverse ends with 0
    pub ends-with-zero : ((b : (algebra_in L f).carrier)
        → ¬ ((algebra_in L f).mul (elem_of L f a) b ≡ (algebra_in L f).one))
        → length last.value ≡ 0
    ends-with-zero none = go last.value refl
      where
        go : (xs : List (List ℕ)) → last.value ≡ xs → length last.value ≡ 0
        go [] e = ap length e
        go (c ∷ x ∷ xs) e = absurd (let l : length last.value ≡ length (c ∷ x ∷ xs) = ap length e in
            omega (arith, l, end.end.short))
        go (c ∷ []) e = absurd (none
            (over_of F (plane_of K f) (P.mul (row_of K.ring (poly_of K a.den))
            (plane_of K last.factor)) (poly_of K c))
            (AL.mul_comm _ _ ∙ inverse_exact F (plane_of K f) (poly_of K a.den) (polys_of K a.num)
            (plane_of K last.factor) (poly_of K c) (element-nonzero K L f a ha)
            (poly-nonzero K L c lead.0 lead.1)
            ((value_map F (plane_of K f)).on_mul (plane_of K last.factor) (plane_of K a.num)
            ∙ end.end.value ∙ ap (plane_in L f) e)))
          where
            lead : IsPoly K c × (0 < length c)
            lead = last-row K L last.value 0 c end.end.planes.value
                (let l : length last.value ≡ 1 = ap length e in omega (arith, l))
                (ap (λ r. get_or r 0 c) (sym e))

    module _ (nonzero : ¬ (elem_of L f a ≡ (algebra_in L f).zero)) (none : length last.value ≡ 0)
      where
        abbrev r : Plane (lawful_field L)
        r = plane_of K before.value

        abbrev s : Plane (lawful_field L)
        s = plane_of K last.factor

        co : AreCofactors K f before.value last.factor
        co = end.cofactors none

        crossed : IsCrossed (lawful_field L) (plane_of K f) (plane_of K before.value)
            (planes (lawful_field L)).zero (planes (lawful_field L)).zero (plane_of K last.factor)
        crossed = record {
          left = co.d;
          left_nonzero = co.d_nonzero;
          right = co.c;
          right_nonzero = co.c_nonzero;
          cross = ap (P.mul (row_of K.ring co.d)) (ring2 P PL (λ s r. s ⊗ r ⊕ neg (nil ⊗ nil))
              (λ s r. s ⊗ r) refl s r) ∙ sym co.product;
        }

        -- the last factor times the numerators is 0
        product-zero : A.mul (plane_in L f last.factor) (plane_in L f a.num) ≡ A.zero
        product-zero = end.end.value ∙ ap (plane_in L f) (nothing-left last.value none)
            ∙ zero-rows K L f

        pub factor-some : 0 < length last.factor
        factor-some = (end.end.divisor none).0

        -- one row would be a polynomial in x that is not 0, and the element 0
        pub factor-has-y : 1 < length last.factor
        factor-has-y = go last.factor refl
          where
            go : (xs : List (List ℕ)) → last.factor ≡ xs → 1 < length last.factor
            go [] e = absurd (let l : length last.factor ≡ 0 = ap length e in omega
                (arith, l, factor-some))
            go (c ∷ x ∷ xs) e = let l : length last.factor ≡ length (c ∷ x ∷ xs) = ap length e in
                omega (arith, l)
            go (c ∷ []) e = absurd (nonzero (cancel_row F (plane_of K f) (poly_of K a.den)
                (element-nonzero K L f a ha) _ _
                (element_clear F (plane_of K f) (poly_of K a.den) (polys_of K a.num)
                (element-nonzero K L f a ha)
                ∙ cancel_row F (plane_of K f) (poly_of K c) (poly-nonzero K L c lead.0 lead.1) _ _
                (ap (λ t. A.mul t (plane_in L f a.num)) (ap (plane_in L f) (sym e)) ∙ product-zero
                ∙ sym (mul_zero A AL _)) ∙ sym (mul_zero A AL _))))
              where
                lead : IsPoly K c × (0 < length c)
                lead = last-row K L last.factor 0 c end.end.planes.factor
                    (let l : length last.factor ≡ 1 = ap length e in omega (arith, l))
                    (ap (λ r. get_or r 0 c) (sym e))

        pub factors-of-end : (g h : List (List ℕ)) → IsPlane K g → IsPlane K h
            → IsPartOf K before.value g → IsPartOf K last.factor h → AreFactors K f a.num g h
        factors-of-end g h hg hh pg ph = record {
          first = hg;
          second = hh;
          factored = crossed_factored F (plane_of K f) r P.zero s crossed pg.content ph.content
              (plane_of K g) (plane_of K h) pg.primitive ph.primitive
              (let e : size D.ring r ≡ length before.value = plane-size K L before.value
              end.planes.value in omega (arith, e, end.has_y))
              (let e : size D.ring s ≡ length last.factor = plane-size K L last.factor
              end.end.planes.factor in omega (arith, e, factor-has-y));
          divides = crossed_divides F (plane_of K f) r P.zero s crossed (plane_of K a.num)
              pg.content
              (plane_of K g) f-some s-some product-zero pg.primitive;
        }
          where
            s-some : ¬ (s ≡ P.zero)
            s-some z = let e : size D.ring s ≡ length last.factor = plane-size K L last.factor
                end.end.planes.factor in let n : size D.ring s ≡ 0 = ap (size D.ring) z
                ∙ zero_plane_size F in absurd (omega (arith, e, n, factor-some))
