-- Steps of Euclid's algorithm on planes.
use Rattle.std.proofs.Common.{◌≡◌, ℕ, suc, ◌+◌, ◌-◌, ◌<◌, ◌≤◌, List, [], ◌∷◌, ◌++◌, length, map}
use Rattle.std.proofs.Common.{get_or, take, refl, sym, ◌∙◌, ap, ap₂, subst, arith}
use Rattle.std.proofs.lemmas.List.{get_or_default, map-append, length-map, length-take-le}
use Rattle.ff_theory.specs.Ring.{RingOps, IsCommRing, Elements}
use Rattle.ff_theory.specs.Lawful.{Lawful, lawful_field, Domain}
use Rattle.ff_theory.specs.Poly.{Poly, poly, polynomials}
use Rattle.ff_theory.proofs.Solver.{◌⊕◌, ◌⊗◌, nil, unit, ring2, ring3, ring6, one_mul}
use Rattle.ff_theory.specs.Map.{IsMap}
use Rattle.ff_theory.proofs.Poly.{polynomial_laws}
use Rattle.ff_theory.proofs.Evaluate.{const_map}
use Rattle.ff_theory.proofs.PolyMap.{polynomial_domain}
use Rattle.ff_theory.specs.Planes.{planes, Plane, row_of}
use Rattle.ff_theory.proofs.ElementEuclid.{IsCrossed, combination-value, crossed-step}
use Rattle.ff_theory.specs.Values.{poly_of, plane_of, IsPlane}
use Rattle.ff_theory.specs.Monomial.{monomial}
use Rattle.ff_elem.specs.Elem.{algebra_in, plane_in}
use Rattle.ff_elem.specs.Euclid.{top, IsStep}
use Rattle.ff_elem.specs.declared.euclid.Multiple.{Multiple}
use Rattle.ff_elem.proofs.RowLemmas.{tops-cancel}
use Rattle.ff_elem.proofs.Reduction.{list-last, plane-size}
use Rattle.ff_elem.proofs.Quotients.{rows-size}

module _ (K : Elements ℕ) (L : Lawful K) where
  abbrev D : Domain
  D = polynomial_domain (lawful_field L)

  abbrev P : RingOps
  P = planes (lawful_field L)

  PL : IsCommRing (planes (lawful_field L))
  PL = polynomial_laws D.ring D.laws D.tests

  row_map : IsMap (polynomials K.ring) (planes (lawful_field L)) (row_of (lawful_field L).ring)
  row_map = const_map D.ring D.laws D.tests

  -- zero rows at the end add none
  pub plane-short : (rows r : List (List ℕ)) → IsPlane K r → plane_of K r ≡ plane_of K rows
      → length r ≤ length rows
  plane-short rows r h e = let s : length r ≤ length rows = let k = ap
      (λ (p : Plane (lawful_field L)). length p.coeffs) e in omega
      (arith, k, plane-size K L r h, rows-size K L r rows) in s

  -- 1 times a plane
  pub one-times : (p q : Plane (lawful_field L)) → p ≡ q
      → (polynomials (polynomials K.ring)).mul (row_of K.ring (polynomials K.ring).one) p ≡ q
  one-times p q h = one_mul P PL p ∙ h

  -- the top rows, which cancel, are left out
  pub cancelled-value : (a b next : List (List ℕ)) (top lead at : ℕ) (t l e q : List ℕ) → length a
      ≡ suc top → length b ≡ suc lead → at + lead ≡ top → t ≡ get_or a top t → l ≡ get_or b lead l
      → (polynomials K.ring).add ((polynomials K.ring).mul (poly_of K e) (poly_of K t))
      ((polynomials K.ring).mul (poly_of K q) (poly_of K l)) ≡ (polynomials K.ring).zero
      → plane_of K next ≡ (polynomials (polynomials K.ring)).add
      ((polynomials (polynomials K.ring)).mul (monomial (polynomials K.ring) (poly_of K e) 0)
      (plane_of K (take top a))) ((polynomials (polynomials K.ring)).mul (monomial (polynomials
      K.ring) (poly_of K q) at) (plane_of K (take lead b)))
      → (polynomials (polynomials K.ring)).mul (row_of K.ring (polynomials K.ring).one)
      (plane_of K next) ≡ (polynomials (polynomials K.ring)).add
      ((polynomials (polynomials K.ring)).mul (row_of K.ring (poly_of K e)) (plane_of K a))
      ((polynomials (polynomials K.ring)).mul (monomial (polynomials K.ring) (poly_of K q) at)
      (plane_of K b))
  cancelled-value a b next top lead at t l e q la lb sum ht hl none is = one-times (plane_of K next)
      _ (is
      ∙ tops-cancel D.ring D.laws D.tests (poly_of K e) (poly_of K q) (poly_of K t) (poly_of K l)
      (map m (take top a)) (map m (take lead b)) at none same
      ∙ ap₂ (λ r s. P.add (P.mul (row_of K.ring (poly_of K e)) (poly D.ring r))
      (P.mul (monomial (polynomials K.ring) (poly_of K q) at) (poly D.ring s)))
      (whole a t top la ht) (whole b l lead lb hl))
    where
      m : List ℕ → Poly K.ring
      m p = poly_of K p

      whole : (xs : List (List ℕ)) (y : List ℕ) (n : ℕ) → length xs ≡ suc n → y ≡ get_or xs n y
          → map m (take n xs) ++ m y ∷ [] ≡ map m xs
      whole xs y n l h = sym (ap (map m) (list-last xs n y l h) ∙ map-append m (take n xs) (y ∷ []))

      same : length (map m (take top a)) ≡ at + length (map m (take lead b))
      same = let r : length (map m (take top a))
          ≡ length (take top a) = length-map (take top a) m in let s : length (map m (take lead b))
          ≡ length (take lead b) = length-map (take lead b) m in
          let u : length (take top a) ≡ top = length-take-le top a (omega (arith, la)) in
          let v : length (take lead b) ≡ lead = length-take-le lead b (omega (arith, lb)) in
          omega (arith, r, s, u, v, sum)

  -- the last row of a list that is another one, and the other way round
  pub top-of : (rows a : List (List ℕ)) → rows ≡ a → 0 < length a → top a
      ≡ get_or rows (length rows - 1) (top a)
  top-of rows a e l = subst (λ r. top a ≡ get_or r (length r - 1) (top a)) (sym e)
      (get_or_default a (length a - 1) [] (top a) (omega (arith, l)))

  pub top-is : (rows a : List (List ℕ)) (p : List ℕ) → rows ≡ a → 0 < length a → p
      ≡ get_or rows (length rows - 1) p → p ≡ top a
  top-is rows a p e l h = h ∙ ap (λ r. get_or r (length r - 1) p) e
      ∙ sym (get_or_default a (length a - 1) [] p (omega (arith, l)))

  -- the plane of the one row 1
  pub one-plane : (rows : List (List ℕ)) (p : List ℕ) → rows ≡ p ∷ [] → poly_of K p
      ≡ (polynomials K.ring).one → plane_of K rows ≡ (planes (lawful_field L)).one
  one-plane rows p e h = ap (plane_of K) e ∙ ap (row_of K.ring) h

  pub step-refl : (a by : Multiple) → IsStep K a by a
  step-refl a by = record {
    g = D.one;
    g_nonzero = D.proper;
    e = D.one;
    e_nonzero = D.proper;
    q = P.zero;
    values = ring2 P PL (λ x y. unit ⊗ x) (λ x y. unit ⊗ x ⊕ nil ⊗ y) refl (plane_of K a.value)
        (plane_of K by.value);
    factors = ring2 P PL (λ x y. unit ⊗ x) (λ x y. unit ⊗ x ⊕ nil ⊗ y) refl (plane_of K a.factor)
        (plane_of K by.factor);
  }

  combined : (g h e d : Poly K.ring) (q r x y z b : Plane (lawful_field L))
      → P.mul (row_of (lawful_field L).ring g) y
      ≡ P.add (P.mul (row_of (lawful_field L).ring e) x) (P.mul q b)
      → P.mul (row_of (lawful_field L).ring h) z
      ≡ P.add (P.mul (row_of (lawful_field L).ring d) y) (P.mul r b)
      → P.mul (row_of (lawful_field L).ring (D.mul g h)) z
      ≡ P.add (P.mul (row_of (lawful_field L).ring (D.mul d e)) x)
      (P.mul (P.add (P.mul (row_of (lawful_field L).ring d) q)
      (P.mul (row_of (lawful_field L).ring g) r)) b)
  combined g h e d q r x y z b first second =
      ap (λ t. P.mul t z) (row_map.on_mul g h)
      ∙ ring3 P PL (λ g h z. (g ⊗ h) ⊗ z) (λ g h z. g ⊗ (h ⊗ z)) refl
      (row_of (lawful_field L).ring g) (row_of (lawful_field L).ring h) z
      ∙ ap (P.mul (row_of (lawful_field L).ring g)) second
      ∙ ring6 P PL (λ g d y r b o. g ⊗ (d ⊗ y ⊕ r ⊗ b)) (λ g d y r b o. d ⊗ (g ⊗ y) ⊕ (g ⊗ r) ⊗ b)
      refl (row_of (lawful_field L).ring g) (row_of (lawful_field L).ring d) y r b b
      ∙ ap (λ t. P.add (P.mul (row_of (lawful_field L).ring d) t)
      (P.mul (P.mul (row_of (lawful_field L).ring g) r) b)) first
      ∙ ring6 P PL (λ d e x q b s. d ⊗ (e ⊗ x ⊕ q ⊗ b) ⊕ s ⊗ b)
      (λ d e x q b s. (d ⊗ e) ⊗ x ⊕ (d ⊗ q ⊕ s) ⊗ b) refl (row_of (lawful_field L).ring d)
      (row_of (lawful_field L).ring e) x q b (P.mul (row_of (lawful_field L).ring g) r)
      ∙ ap (λ t. P.add (P.mul t x) (P.mul (P.add (P.mul (row_of (lawful_field L).ring d) q) (P.mul
      (row_of (lawful_field L).ring g) r)) b)) (sym (row_map.on_mul d e))

  pub step-trans : (a by b c : Multiple) → IsStep K a by b → IsStep K b by c → IsStep K a by c
  step-trans a by b c h k = record {
    g = D.mul h.g k.g;
    g_nonzero = D.no_divisors h.g k.g h.g_nonzero k.g_nonzero;
    e = D.mul k.e h.e;
    e_nonzero = D.no_divisors k.e h.e k.e_nonzero h.e_nonzero;
    q = P.add (P.mul (row_of (lawful_field L).ring k.e) h.q)
        (P.mul (row_of (lawful_field L).ring h.g) k.q);
    values = combined h.g k.g h.e k.e h.q k.q (plane_of K a.value) (plane_of K b.value)
        (plane_of K c.value) (plane_of K by.value) h.values k.values;
    factors = combined h.g k.g h.e k.e h.q k.q (plane_of K a.factor) (plane_of K b.factor)
        (plane_of K c.factor) (plane_of K by.factor) h.factors k.factors;
  }

  module _ (f : List (List ℕ)) where
    pub step-value : (v : (algebra_in L f).carrier) (a by b : Multiple) → IsStep K a by b
        → (algebra_in L f).mul (plane_in L f a.factor) v ≡ plane_in L f a.value
        → (algebra_in L f).mul (plane_in L f by.factor) v ≡ plane_in L f by.value
        → (algebra_in L f).mul (plane_in L f b.factor) v ≡ plane_in L f b.value
    step-value v a by b h ha hb = combination-value (lawful_field L) (plane_of K f) v
        (plane_of K a.value) (plane_of K a.factor) (plane_of K by.value) (plane_of K by.factor)
        (plane_of K b.value) (plane_of K b.factor) h.q h.g h.e h.g_nonzero
        (record { equal = h.values }) (record { equal = h.factors }) ha hb

    pub step-crossed : (a by b : Multiple) → IsStep K a by b
        → IsCrossed (lawful_field L) (plane_of K f) (plane_of K a.value) (plane_of K a.factor)
        (plane_of K by.value) (plane_of K by.factor)
        → IsCrossed (lawful_field L) (plane_of K f) (plane_of K by.value) (plane_of K by.factor)
        (plane_of K b.value) (plane_of K b.factor)
    step-crossed a by b h crossed = crossed-step (lawful_field L) (plane_of K f)
        (plane_of K a.value) (plane_of K a.factor) (plane_of K by.value) (plane_of K by.factor)
        (plane_of K b.value) (plane_of K b.factor) h.q h.g h.e h.g_nonzero h.e_nonzero
        (record { equal = h.values }) (record { equal = h.factors }) crossed
