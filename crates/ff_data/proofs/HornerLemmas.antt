-- Polynomials at an element of E(f) by Horner's rule, for an equation f over a field whose laws are
-- L.
use Rattle.std.proofs.Common.{◌≡◌, ℕ, suc, ◌+◌, ◌-◌, ◌<◌, ◌≤◌, List, [], ◌∷◌, length, map, All}
use Rattle.std.proofs.Common.{zero, refl, sym, ◌∙◌, ap, subst, arith, Result, Ok, Err, IfOk}
use Rattle.ff_theory.specs.Ring.{RingOps, IsCommRing, Elements}
use Rattle.ff_theory.specs.Lawful.{Field, Lawful, lawful_field}
use Rattle.ff_theory.specs.Sum.{sum_below}
use Rattle.ff_theory.specs.Poly.{coeff, poly}
use Rattle.ff_theory.proofs.Poly.{trim-coeff}
use Rattle.ff_theory.proofs.Division.{size_le}
use Rattle.ff_theory.proofs.Horner.{horner, horner-step, horner-ext, from_index}
use Rattle.ff_theory.proofs.Coeffs.{coeff-past}
use Rattle.ff_theory.specs.Planes.{Plane}
use Rattle.ff_theory.proofs.Element.{algebra_is_ring}
use Rattle.ff_theory.specs.Algebra.{constant}
use Rattle.ff_theory.proofs.Constants.{poly_at-horner}
use Rattle.ff_theory.specs.Values.{poly_of, plane_of}
use Rattle.ff_elem.specs.declared.elem.Elem.{Elem}
use Rattle.ff_elem.specs.Elem.{algebra_in, elem_of, poly_in, IsElem, ElemIs}
use Rattle.ff_data.specs.Substitution.{poly_at}

-- a list of one entry
pub each-one : {A : Type 0} (P : A → Type 0) (x : A) (xs : List A) → xs ≡ x ∷ [] → P x → All P xs
each-one P x xs e h = subst (All P) (sym e) one
  where
    one : All P (x ∷ [])
    one zero d l = h
    one (suc k) d l = absurd (omega arith)

-- one term more
pub sum-more : (R : RingOps) (f : ℕ → R.carrier) (l : ℕ) → R.add (sum_below R l f) (f l)
    ≡ sum_below R (l + 1) f
sum-more R f l = let e : suc l ≡ l + 1 = omega arith in ap (λ n. sum_below R n f) e

module _ (K : Elements ℕ) (L : Lawful K) (g : List (List ℕ)) where
  abbrev F : Field
  F = lawful_field L

  abbrev A : RingOps
  A = algebra_in L g

  AL : IsCommRing (algebra_in L g)
  AL = algebra_is_ring (lawful_field L) (plane_of K g)

  abbrev G : Plane (lawful_field L)
  G = plane_of K g

  step-down : (w i k : ℕ) → 0 < i → i ≤ w → k ≡ i - 1 → w - k ≡ suc (w - i)
  step-down w i k pos l e = omega arith

  -- one step down
  pub horner-next : (X : (algebra_in L g).carrier) (c : ℕ → (algebra_in L g).carrier) (w i k : ℕ)
      → 0 < i → i ≤ w → k ≡ i - 1
      → (algebra_in L g).add (c k) ((algebra_in L g).mul X (horner (algebra_in L g) X (from_index
      i c) (w - i))) ≡ horner (algebra_in L g) X (from_index k c) (w - k)
  horner-next X c w i k pos l e =
      let s : suc k ≡ i = omega arith in
      ap (λ i'. A.add (c k) (A.mul X (horner A X (from_index i' c) (w - i)))) (sym s)
      ∙ sym (horner-step A AL X c k (w - i))
      ∙ ap (λ n. horner A X (from_index k c) n) (sym (step-down w i k pos l e))

  pub horner-none : (X : (algebra_in L g).carrier) (c : ℕ → (algebra_in L g).carrier) (w : ℕ)
      → horner (algebra_in L g) X (from_index w c) (w - w) ≡ (algebra_in L g).zero
  horner-none X c w = let none : w - w ≡ 0 = omega arith in ap (horner A X (from_index w c)) none

  horner-whole : (X : (algebra_in L g).carrier) (c : ℕ → (algebra_in L g).carrier) (w i : ℕ) → i
      ≡ 0 → horner (algebra_in L g) X (from_index i c) (w - i) ≡ horner (algebra_in L g) X c w
  horner-whole X c w i z =
      let e : w - 0 ≡ w = omega arith in
      ap (λ k. horner A X (from_index k c) (w - k)) z ∙ ap (horner A X (from_index 0 c)) e
      ∙ horner-ext A AL X (from_index 0 c) c w
      (λ k l. let e : 0 + k ≡ k = omega arith in ap c e)

  -- an element of the field as one of E(f)
  pub constant-value : (c : ℕ) → poly_in L g (c ∷ [])
      ≡ constant (lawful_field L) (plane_of K g) (K.value c)
  unfolding constant poly
  constant-value c = refl

  -- a coefficient
  pub coefficient : (p : List ℕ) (i : ℕ) (c : K.carrier) → c ≡ coeff K.ring (map K.value p) i → c
      ≡ coeff K.ring (poly_of K p).coeffs i
  unfolding poly
  coefficient p i c h = h ∙ sym (trim-coeff K.ring L.laws L.tests (map K.value p) i)

  poly-short : (p : List ℕ) → length (poly_of K p).coeffs ≤ length p
  unfolding poly
  poly-short p = size_le K.ring L.laws L.tests (poly_of K p) (length p)
      (λ i h. trim-coeff K.ring L.laws L.tests (map K.value p) i ∙ coeff-past K.ring K.value p i h)

  -- the whole polynomial
  pub poly-whole : (X : (algebra_in L g).carrier) (p : List ℕ) (i : ℕ) → i ≡ 0
      → horner (algebra_in L g) X (from_index i (λ i. constant (lawful_field L) (plane_of K g)
      (coeff K.ring (poly_of K p).coeffs i))) (length p - i)
      ≡ poly_at (lawful_field L) (plane_of K g) X (poly_of K p)
  poly-whole X p i z = horner-whole X (λ i. constant F G (coeff K.ring (poly_of K p).coeffs i))
      (length p) i z ∙ sym (poly_at-horner F G X (poly_of K p) (length p) (poly-short p))

  -- an element that a call answers, and its value
  pub elem-is : {E : Type 0} (r : Result Elem E) (v w : (algebra_in L g).carrier)
      → IfOk r (IsElem L g) → IfOk r (λ e. elem_of L g e ≡ v) → v ≡ w → IfOk r (ElemIs L g w)
  elem-is (Ok e) v w h k s = record { element = h; value = k ∙ s }
  elem-is (Err e) v w h k s = tt
