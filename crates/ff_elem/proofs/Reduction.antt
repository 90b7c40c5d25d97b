-- The number of rows, the last row, and pseudo-remainders by the equation as elements of E(f).
use Rattle.std.proofs.Common.{◌≡◌, ℕ, zero, suc, ◌<◌, List, [], ◌∷◌, ◌++◌, length, map, get_or}
use Rattle.std.proofs.Common.{take, drop, refl, sym, ◌∙◌, ap, subst, arith}
use Rattle.std.proofs.lemmas.List.{length-map, take_all}
use Rattle.std.proofs.Math.Seq.{take-suc, drop-cons}
use Rattle.ff_theory.specs.Ring.{RingOps, IsCommRing, Elements}
use Rattle.ff_theory.specs.Lawful.{Lawful, lawful_field, Domain}
use Rattle.ff_theory.specs.Poly.{poly, polynomials}
use Rattle.ff_theory.specs.Division.{size}
use Rattle.ff_theory.proofs.Solver.{◌⊕◌, ◌⊗◌, nil, ring2}
use Rattle.ff_theory.specs.Map.{IsMap}
use Rattle.ff_theory.proofs.Poly.{trim_same}
use Rattle.ff_theory.proofs.Division.{x, top_nonzero}
use Rattle.ff_theory.proofs.Evaluate.{const_map}
use Rattle.ff_theory.proofs.PolyMap.{polynomial_domain, same_false}
use Rattle.ff_theory.specs.Planes.{planes, Plane, row_of, IsPseudoDivision}
use Rattle.ff_theory.proofs.Element.{algebra_is_ring, value_map, equation}
use Rattle.ff_theory.specs.Algebra.{value_of}
use Rattle.ff_theory.specs.Values.{poly_of, IsPoly, plane_of, IsPlane}
use Rattle.ff_elem.specs.Elem.{algebra_in, plane_in, poly_in}
use Rattle.ff_elem.proofs.PolyLemmas.{nonzero-length}
use Rattle.ff_poly.proofs.RowLists.{row-value}

-- a list and its last entry
pub list-last : {X : Type 0} (xs : List X) (n : ℕ) (x : X) → length xs ≡ suc n → x ≡ get_or xs n x
    → xs ≡ take n xs ++ x ∷ []
list-last xs n x l e = let short : n < length xs = omega arith in
    sym (take_all (suc n) xs (omega arith)) ∙ take-suc xs n x short
    ∙ ap (λ t. take n xs ++ t ∷ []) (sym e)

-- an entry and what stands after it
pub drop-entry : {X : Type 0} (xs : List X) (i m : ℕ) (x : X) → m ≡ suc i → i < length xs → x
    ≡ get_or xs i x → drop i xs ≡ x ∷ drop m xs
drop-entry xs i m x next l e = drop-cons xs i x l ∙ ap (λ t. t ∷ drop (suc i) xs) (sym e)
    ∙ ap (λ n. x ∷ drop n xs) (sym next)

module _ (K : Elements ℕ) (L : Lawful K) where
  abbrev D : Domain
  D = polynomial_domain (lawful_field L)

  abbrev P : RingOps
  P = planes (lawful_field L)

  -- the number of rows
  pub plane-size : (f : List (List ℕ)) → IsPlane K f → size (polynomials K.ring) (plane_of K f)
      ≡ length f
  unfolding poly
  plane-size f h = ap length (trim_same D.ring D.laws D.tests (map (λ p. poly_of K p) f)
      h.canonical) ∙ length-map f (λ p. poly_of K p)

  -- the last row is not zero
  pub last-row : (f : List (List ℕ)) (n : ℕ) (a : List ℕ) → IsPlane K f → length f ≡ suc n → a
      ≡ get_or f n a → IsPoly K a × (0 < length a)
  last-row f n a h l e = (
    subst (IsPoly K) (sym e) (h.each n a (omega arith)),
    nonzero-length K L a
        (same_false D.ring D.tests (poly_of K a) D.zero
        (λ z. top_nonzero D.ring D.laws D.tests whole n (length-map f (λ p. poly_of K p) ∙ l)
        (sym (row-value K f n) ∙ ap (poly_of K) (get_or-any f n (omega arith) ∙ sym e) ∙ z))),
  )
    where
      whole : Plane (lawful_field L)
      whole = record { coeffs = map (λ p. poly_of K p) f; canonical = h.canonical }

      get_or-any : (f : List (List ℕ)) (n : ℕ) → n < length f → get_or f n [] ≡ get_or f n a
      get_or-any [] n l = absurd (omega arith)
      get_or-any (p ∷ f) zero l = refl
      get_or-any (p ∷ f) (suc n) l = get_or-any f n (omega arith)

  module _ (f : List (List ℕ)) where
    abbrev A : RingOps
    A = algebra_in L f

    AL : IsCommRing (algebra_in L f)
    AL = algebra_is_ring (lawful_field L) (plane_of K f)

    V : IsMap P A (value_of (lawful_field L) (plane_of K f))
    V = value_map (lawful_field L) (plane_of K f)

    -- a pseudo-remainder by f
    pub reduced-value : (c : List ℕ) (rows rest : List (List ℕ)) → IsPlane K f → 0 < length f
        → IsPseudoDivision K.ring (poly_of K c) (plane_of K rows) (plane_of K f) (plane_of K rest)
        → plane_in L f rest ≡ (algebra_in L f).mul (poly_in L f c) (plane_in L f rows)
    reduced-value c rows rest hf lf h = sym
        (sym (V.on_mul (row_of K.ring (poly_of K c)) (plane_of K rows)) ∙ ap v h.sum
        ∙ V.on_add (P.mul h.quotient (plane_of K f)) (plane_of K rest)
        ∙ ap (λ t. A.add t (v (plane_of K rest)))
        (V.on_mul h.quotient (plane_of K f)
        ∙ ap (A.mul (v h.quotient)) (equation (lawful_field L) (plane_of K f) (λ z. absurd (let
        k : length f ≡ 0 = sym (plane-size f hf) ∙ z in omega (arith, k, lf)))))
        ∙ ring2 A AL (λ q r. q ⊗ nil ⊕ r) (λ q r. r) refl (v h.quotient) (v (plane_of K rest)))
      where
        v : Plane (lawful_field L) → A.carrier
        v N = value_of (lawful_field L) (plane_of K f) N

    pub product-value : (b c p : List ℕ) → poly_of K b
        ≡ (polynomials K.ring).mul (poly_of K c) (poly_of K p) → poly_in L f b
        ≡ A.mul (poly_in L f c) (poly_in L f p)
    product-value b c p h = ap (value_of (lawful_field L) (plane_of K f))
        (ap (row_of (lawful_field L).ring) h
        ∙ (const_map D.ring D.laws D.tests).on_mul (poly_of K c) (poly_of K p))
        ∙ V.on_mul (row_of (lawful_field L).ring (poly_of K c))
        (row_of (lawful_field L).ring (poly_of K p))
