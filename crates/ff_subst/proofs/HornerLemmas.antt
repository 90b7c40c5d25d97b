-- Loops by Horner's rule, and sums of rows, over plain values.
use Rattle.std.proofs.Common.{◌≡◌, ℕ, suc, ◌+◌, ◌-◌, ◌<◌, ◌≤◌, List, [], ◌∷◌, length, map, get_or}
use Rattle.std.proofs.Common.{refl, sym, ◌∙◌, ap, arith}
use Rattle.std.proofs.lemmas.List.{get_or_past}
use Rattle.ff_theory.specs.Ring.{RingOps, IsCommRing, Elements}
use Rattle.ff_theory.specs.Lawful.{Domain, Field, Lawful, lawful_field}
use Rattle.ff_theory.specs.Poly.{coeff, Poly, poly, polynomials}
use Rattle.ff_theory.specs.Eval.{eval}
use Rattle.ff_theory.proofs.Solver.{◌⊕◌, ◌⊗◌, nil, ring2}
use Rattle.ff_theory.proofs.Poly.{trim-coeff}
use Rattle.ff_theory.proofs.Division.{const}
use Rattle.ff_theory.proofs.Evaluate.{const_map}
use Rattle.ff_theory.proofs.PolyMap.{polynomial_domain}
use Rattle.ff_theory.proofs.Horner.{horner, horner-step, horner-ext, from_index, eval-horner}
use Rattle.ff_theory.proofs.Horner.{eval-zero}
use Rattle.ff_theory.specs.Planes.{planes, Plane, row_of}
use Rattle.ff_theory.proofs.Element.{algebra_is_ring}
use Rattle.ff_theory.specs.Algebra.{value_of, constant}
use Rattle.ff_theory.proofs.Constants.{poly_at-horner}
use Rattle.ff_theory.specs.Values.{poly_of, plane_of}
use Rattle.ff_elem.specs.Elem.{algebra_in, poly_in}
use Rattle.ff_data.specs.Substitution.{poly_at, plane_at_pair}
use Rattle.ff_subst.specs.Columns.{column_of, plane_combination}
use Rattle.ff_subst.proofs.Remainders.{entry}
use Rattle.ff_subst.proofs.Columns.{poly-short, plane-rows, plane-columns, plane-whole}
use Rattle.ff_subst.proofs.Residues.{planes_laws, row_map}

module _ (K : Elements ℕ) (L : Lawful K) where
  abbrev F : Field
  F = lawful_field L

  abbrev D : Domain
  D = polynomial_domain (lawful_field L)

  abbrev P : RingOps
  P = planes (lawful_field L)

  no-term : (c : Poly K.ring) (S N : Plane (lawful_field L)) → c ≡ (polynomials K.ring).zero → S
      ≡ (polynomials (polynomials K.ring)).add S
      ((polynomials (polynomials K.ring)).mul (row_of K.ring c) N)
  no-term c S N e = ring2 P (planes_laws F) (λ s n. s) (λ s n. s ⊕ nil ⊗ n) refl S N
      ∙ ap (λ t. P.add S (P.mul t N)) (sym (ap (row_of F.ring) e ∙ (row_map F).on_zero))

  -- past the rows there is nothing to add
  pub no-product : (rows : List (List ℕ)) (j : ℕ) (S N : Plane (lawful_field L)) → length rows ≤ j
      → S ≡ (polynomials (polynomials K.ring)).add S
      ((polynomials (polynomials K.ring)).mul (row_of K.ring (poly_of K (get_or rows j []))) N)
  no-product rows j S N l = no-term (poly_of K (get_or rows j [])) S N
      (ap (poly_of K) (get_or_past rows j [] l))

  pub no-multiple : (c : ℕ) (S N : Plane (lawful_field L)) → K.value c ≡ K.zero → S
      ≡ (polynomials (polynomials K.ring)).add S
      ((polynomials (polynomials K.ring)).mul (row_of K.ring (poly_of K (c ∷ []))) N)
  no-multiple c S N e = no-term (poly_of K (c ∷ [])) S N
      (ap (const K.ring L.laws L.tests) e ∙ (const_map K.ring L.laws L.tests).on_zero)

  -- one product more
  pub combination-step : (c : ℕ → Poly K.ring) (M : ℕ → Plane (lawful_field L)) (j : ℕ)
      (S T : Plane (lawful_field L)) → S ≡ plane_combination K.ring j c M → T
      ≡ (polynomials (polynomials K.ring)).add S
      ((polynomials (polynomials K.ring)).mul (row_of K.ring (c j)) (M j)) → T
      ≡ plane_combination K.ring (j + 1) c M
  combination-step c M j S T h e = e ∙ ap (λ s. P.add s (P.mul (row_of K.ring (c j)) (M j))) h
      ∙ (let q : suc j ≡ j + 1 = omega arith in ap (λ n. plane_combination K.ring n c M) q)

  module _ (g : List (List ℕ)) where
    abbrev A : RingOps
    A = algebra_in L g

    AL : IsCommRing (algebra_in L g)
    AL = algebra_is_ring (lawful_field L) (plane_of K g)

    abbrev G : Plane (lawful_field L)
    G = plane_of K g

    step-down : (w i k : ℕ) → 0 < i → i ≤ w → k ≡ i - 1 → w - k ≡ suc (w - i)
    step-down w i k pos l e = omega arith

    -- one step down
    pub horner-next : (X : (algebra_in L g).carrier) (c : ℕ → (algebra_in L g).carrier) (w i k : ℕ)
        → 0 < i → i ≤ w → k ≡ i - 1
        → (algebra_in L g).add (c k) ((algebra_in L g).mul X (horner (algebra_in L g) X (from_index
        i c) (w - i))) ≡ horner (algebra_in L g) X (from_index k c) (w - k)
    horner-next X c w i k pos l e =
        let s : suc k ≡ i = omega arith in
        ap (λ i'. A.add (c k) (A.mul X (horner A X (from_index i' c) (w - i)))) (sym s)
        ∙ sym (horner-step A AL X c k (w - i))
        ∙ ap (λ n. horner A X (from_index k c) n) (sym (step-down w i k pos l e))

    pub horner-none : (X : (algebra_in L g).carrier) (c : ℕ → (algebra_in L g).carrier) (w : ℕ)
        → horner (algebra_in L g) X (from_index w c) (w - w) ≡ (algebra_in L g).zero
    horner-none X c w = let none : w - w ≡ 0 = omega arith in ap (horner A X (from_index w c)) none

    horner-whole : (X : (algebra_in L g).carrier) (c : ℕ → (algebra_in L g).carrier) (w i : ℕ) → i
        ≡ 0 → horner (algebra_in L g) X (from_index i c) (w - i) ≡ horner (algebra_in L g) X c w
    horner-whole X c w i z =
        let e : w - 0 ≡ w = omega arith in
        ap (λ k. horner A X (from_index k c) (w - k)) z ∙ ap (horner A X (from_index 0 c)) e
        ∙ horner-ext A AL X (from_index 0 c) c w
        (λ k l. let e : 0 + k ≡ k = omega arith in ap c e)

    -- the whole polynomial, by columns
    pub columns-whole : (X Y : (algebra_in L g).carrier) (rows : List (List ℕ)) (w i : ℕ) → i ≡ 0
        → ((j : ℕ) → length (get_or rows j []) ≤ w)
        → horner (algebra_in L g) X (from_index i (column_of (lawful_field L) (plane_of K g) Y
        (plane_of K rows) (length rows))) (w - i)
        ≡ plane_at_pair (lawful_field L) (plane_of K g) X Y (plane_of K rows)
    columns-whole X Y rows w i z wide = plane-whole F G X Y (plane_of K rows) (length rows) w i _ z
        (plane-rows K L rows) (plane-columns K L rows w wide) refl

    -- a coefficient as an element
    pub constant-entry : (p : List ℕ) (i c : ℕ) → K.value c ≡ coeff K.ring (map K.value p) i
        → poly_in L g (c ∷ []) ≡ constant (lawful_field L) (plane_of K g) (coeff K.ring (poly_of K
        p).coeffs i)
    unfolding constant poly
    constant-entry p i c h = ap (λ a. value_of F G (row_of F.ring (const K.ring L.laws L.tests a)))
        (h ∙ sym (trim-coeff K.ring L.laws L.tests (map K.value p) i))

    pub poly-whole : (X : (algebra_in L g).carrier) (p : List ℕ) (i : ℕ) → i ≡ 0
        → horner (algebra_in L g) X (from_index i (λ i. constant (lawful_field L) (plane_of K g)
        (coeff K.ring (poly_of K p).coeffs i))) (length p - i)
        ≡ poly_at (lawful_field L) (plane_of K g) X (poly_of K p)
    poly-whole X p i z = horner-whole X (λ i. constant F G (coeff K.ring (poly_of K p).coeffs i))
        (length p) i z ∙ sym (poly_at-horner F G X (poly_of K p) (length p) (poly-short K L p))

    -- a row as a coefficient
    pub row-entry : (X : (algebra_in L g).carrier) (rows : List (List ℕ)) (j : ℕ)
        → poly_at (lawful_field L) (plane_of K g) X (poly_of K (get_or rows j []))
        ≡ poly_at (lawful_field L) (plane_of K g) X
        (coeff (polynomials K.ring) (plane_of K rows).coeffs j)
    row-entry X rows j = ap (poly_at F G X) (sym (entry K L rows j))

    pub rows-whole : (X Y : (algebra_in L g).carrier) (rows : List (List ℕ)) (j : ℕ) → j ≡ 0
        → horner (algebra_in L g) Y (from_index j (λ j. poly_at (lawful_field L) (plane_of K g) X
        (coeff (polynomials K.ring) (plane_of K rows).coeffs j))) (length rows - j)
        ≡ plane_at_pair (lawful_field L) (plane_of K g) X Y (plane_of K rows)
    rows-whole X Y rows j z = horner-whole Y
        (λ j. poly_at F G X (coeff (polynomials K.ring) (plane_of K rows).coeffs j)) (length rows) j
        z
        ∙ sym (eval-horner D.ring A AL (eval K.ring A (constant F G) X)
        (eval-zero K.ring A (constant F G) X) Y (plane_of K rows) (length rows)
        (plane-rows K L rows))
