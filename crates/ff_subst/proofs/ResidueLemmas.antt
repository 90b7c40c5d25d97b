-- Residues in code: lists of them, products and sums.
use Rattle.std.proofs.Common.{◌≡◌, ℕ, suc, ◌+◌, ◌<◌, ◌≤◌, ◌⊎◌, inl, inr, List, [], ◌∷◌, ◌++◌}
use Rattle.std.proofs.Common.{length, map, get_or, refl, sym, ◌∙◌, ap, subst, arith}
use Rattle.std.proofs.lemmas.Bool.{cases_lt}
use Rattle.std.proofs.lemmas.List.{get_or_append_left, get_or_push}
use Rattle.ff_theory.specs.Ring.{RingOps, IsCommRing, Elements, power}
use Rattle.ff_theory.specs.Lawful.{Domain, Field, Lawful, lawful_field}
use Rattle.ff_theory.specs.Poly.{coeff, polynomials}
use Rattle.ff_theory.specs.Divides.{Divides}
use Rattle.ff_theory.proofs.Solver.{◌⊕◌, ◌⊗◌, neg, nil, ring2, ring3, ring4, mul_zero, one_mul}
use Rattle.ff_theory.proofs.Sums.{sum-ext}
use Rattle.ff_theory.proofs.Division.{const}
use Rattle.ff_theory.proofs.PolyMap.{polynomial_domain}
use Rattle.ff_theory.specs.Planes.{planes, Plane, row_of}
use Rattle.ff_theory.proofs.Element.{algebra_is_ring, element_clear}
use Rattle.ff_theory.specs.Algebra.{value_of, constant}
use Rattle.ff_theory.specs.Values.{poly_of, plane_of, IsPlane}
use Rattle.ff_elem.specs.declared.elem.Elem.{Elem}
use Rattle.ff_elem.specs.Elem.{algebra_in, elem_of, poly_in, IsElem}
use Rattle.ff_elem.proofs.Quotients.{rows-size, element-count, element-nonzero}
use Rattle.ff_elem.proofs.Reduction.{plane-size}
use Rattle.ff_subst.specs.declared.residue.Residue.{Residue}
use Rattle.ff_subst.specs.declared.residue.ResidueList.{ResidueList}
use Rattle.ff_subst.specs.Congruence.{IsCongruent, AreCongruent, IsValueResidue, IsFactorResidue}
use Rattle.ff_subst.specs.Residues.{IsResidue, AreResidues, IsAppended}
use Rattle.ff_subst.specs.Powers.{AreMultiples, IsMatrix}
use Rattle.ff_subst.specs.Columns.{column_of, plane_combination, constant_at}
use Rattle.ff_subst.proofs.Congruences.{congruent-equal}
use Rattle.ff_subst.proofs.Residues.{planes_laws, row_map, residue-equal, residue-plane}
use Rattle.ff_subst.proofs.Residues.{residue-congruent, residue-add, residue-neg, residue-factor}
use Rattle.ff_subst.proofs.Residues.{residue-combination, residue-applied, zero-residue}
use Rattle.ff_subst.proofs.Residues.{factor-known, factor-one, factor-mul, factor-congruent}
use Rattle.ff_subst.proofs.Remainders.{entry}
use Rattle.ff_subst.proofs.Columns.{plane-entry}

module _ (K : Elements ℕ) (L : Lawful K) (g : List (List ℕ)) (m : List ℕ) where
  abbrev F : Field
  F = lawful_field L

  abbrev D : Domain
  D = polynomial_domain (lawful_field L)

  abbrev P : RingOps
  P = planes (lawful_field L)

  abbrev A : RingOps
  A = algebra_in L g

  AL : IsCommRing (algebra_in L g)
  AL = algebra_is_ring (lawful_field L) (plane_of K g)

  abbrev G : Plane (lawful_field L)
  G = plane_of K g

  pub residue-is : (u v : (algebra_in L g).carrier) (r : Residue) → u ≡ v → IsResidue L g m u r
      → IsResidue L g m v r
  residue-is u v r e h = subst (λ u. IsResidue L g m u r) e h

  -- an element by its denominator and its numerators
  pub element-residue : (e : Elem) (r : Residue) → IsPlane K g → 1 < length g → IsElem L g e
      → IsCongruent (polynomials K.ring) (poly_of K m) (poly_of K e.den) (poly_of K r.factor)
      → AreCongruent K m (plane_of K e.num) (plane_of K r.plane) → IsResidue L g m (elem_of L g e) r
  element-residue e r hg has he hf hp = record {
    t = poly_in L g e.den;
    factor = factor-congruent F G (poly_of K m) (poly_of K e.den) (poly_of K r.factor) _ hf
        (factor-known F G (poly_of K m) (poly_of K e.den) (element-nonzero K L g e he));
    plane = residue-congruent F G (poly_of K m) (plane_of K e.num) (plane_of K r.plane) _ hp known;
  }
    where
      known : IsValueResidue (lawful_field L) (plane_of K g) (poly_of K m) (plane_of K e.num)
          ((algebra_in L g).mul (poly_in L g e.den) (elem_of L g e))
      known = record {
        exact = plane_of K e.num;
        small = omega (
          arith,
          rows-size K L g e.num,
          element-count K L g e hg has he,
          plane-size K L
              g hg,
        );
        value = sym (element_clear F G (poly_of K e.den) (map (λ p. poly_of K p) e.num)
            (element-nonzero K L g e he));
        congruent = congruent-equal P (planes_laws F) (row_of F.ring (poly_of K m))
            (plane_of K e.num) (plane_of K e.num) refl;
      }

  pub no-residues : (u : ℕ → (algebra_in L g).carrier) (r : ResidueList) → poly_of K r.factor
      ≡ (polynomials K.ring).one → length r.planes ≡ 0 → AreResidues L g m u r
  no-residues u r one none = record {
    t = A.one;
    factor = factor-one F G (poly_of K m) (poly_of K r.factor) one;
    planes = λ j l.
        absurd (omega (arith, l, none));
  }

  product-factor : (p q new : List ℕ) (s t : (algebra_in L g).carrier)
      → IsCongruent (polynomials K.ring) (poly_of K m)
      ((polynomials K.ring).mul (poly_of K p) (poly_of K q)) (poly_of K new)
      → IsFactorResidue (lawful_field L) (plane_of K g) (poly_of K m) (poly_of K p) s
      → IsFactorResidue (lawful_field L) (plane_of K g) (poly_of K m) (poly_of K q) t
      → IsFactorResidue (lawful_field L) (plane_of K g) (poly_of K m) (poly_of K new)
      ((algebra_in L g).mul s t)
  product-factor p q new s t e h k = factor-congruent F G (poly_of K m)
      (D.mul (poly_of K p) (poly_of K q)) (poly_of K new) (A.mul s t) e
      (factor-mul F G (poly_of K m) (poly_of K p) (poly_of K q) s t h k)

  -- one residue more
  pub more-residues : (u : ℕ → (algebra_in L g).carrier) (list new : ResidueList) (last : Residue)
      → IsCongruent (polynomials K.ring) (poly_of K m)
      ((polynomials K.ring).mul (poly_of K last.factor) (poly_of K list.factor))
      (poly_of K new.factor)
      → length new.planes ≡ length list.planes + 1 → IsAppended K m list last new.planes
      → AreResidues L g m u list → IsResidue L g m (u (length list.planes)) last
      → AreResidues L g m u new
  more-residues u list new last hf count h old l = record {
    t = A.mul l.t old.t;
    factor = product-factor last.factor list.factor new.factor l.t old.t hf l.factor old.factor;
    planes = λ j b. go j (cases_lt j (length list.planes)) b;
  }
    where
      go : (j : ℕ) → (j < length list.planes) ⊎ (length list.planes ≤ j) → j < length new.planes
          → IsValueResidue (lawful_field L) (plane_of K g) (poly_of K m)
          (plane_of K (get_or new.planes j []))
          ((algebra_in L g).mul ((algebra_in L g).mul l.t old.t) (u j))
      go j (inl b) k = residue-congruent F G (poly_of K m) _ (plane_of K (get_or new.planes j [])) _
          (h.before j b)
          (residue-equal F G (poly_of K m) _ _ _ (sym (AL.mul_assoc l.t old.t (u j)))
          (residue-factor F G (poly_of K m) (poly_of K last.factor) l.t
          (plane_of K (get_or list.planes j [])) _ l.factor (old.planes j b)))
      go j (inr b) k = let q : length list.planes ≡ j = omega (arith, k, count, b) in
          subst (λ i. IsValueResidue F G (poly_of K m) (plane_of K (get_or new.planes i []))
          (A.mul (A.mul l.t old.t) (u i))) q
          (residue-congruent F G (poly_of K m) _
          (plane_of K (get_or new.planes (length list.planes) [])) _ h.end
          (residue-equal F G (poly_of K m) _ _ _
          (ring3 A AL (λ o l u. o ⊗ (l ⊗ u)) (λ o l u. l ⊗ o ⊗ u) refl old.t l.t
          (u (length list.planes)))
          (residue-factor F G (poly_of K m) (poly_of K list.factor) old.t (plane_of K last.plane) _
          old.factor l.plane)))

  -- the product by a matrix
  pub product-residue : (v u : (algebra_in L g).carrier) (matrix : ResidueList) (r s : Residue)
      → IsPlane K g
      → IsCongruent (polynomials K.ring) (poly_of K m)
      ((polynomials K.ring).mul (poly_of K matrix.factor) (poly_of K r.factor))
      (poly_of K s.factor)
      → AreCongruent K m (plane_combination K.ring (length matrix.planes)
      (λ j. poly_of K (get_or r.plane j [])) (λ j. plane_of K (get_or matrix.planes j [])))
      (plane_of K s.plane)
      → IsMatrix L g m v matrix → IsResidue L g m u r → IsResidue L g m ((algebra_in L g).mul v u) s
  product-residue v u matrix r s hg hf hp h k =
      let d = h.multiples.t in
      let t = k.t in
      record {
        t = A.mul d t;
        factor = product-factor matrix.factor r.factor s.factor d t hf h.multiples.factor k.factor;
        plane = residue-congruent F G (poly_of K m) _ (plane_of K s.plane) _ hp
            (residue-equal F G (poly_of K m) _ _ _
            (ring4 A AL (λ d v t u. d ⊗ (v ⊗ (t ⊗ u))) (λ d v t u. d ⊗ t ⊗ (v ⊗ u)) refl d v t
            u)
            (residue-applied F G (poly_of K m) (length matrix.planes)
            (λ j. poly_of K (get_or r.plane j [])) (λ j. plane_of K (get_or matrix.planes j []))
            (plane_of K r.plane) d v (A.mul t u) (omega (arith, h.whole, plane-size K L g hg))
            (λ j. sym (entry K L r.plane j)) h.multiples.planes k.plane));
      }

  pub next-multiple : (u v w : (algebra_in L g).carrier) (n : ℕ) → w
      ≡ (algebra_in L g).mul u (power (algebra_in L g) v n) → (algebra_in L g).mul v w
      ≡ (algebra_in L g).mul u (power (algebra_in L g) v (n + 1))
  next-multiple u v w n h = let q : suc n ≡ n + 1 = omega arith in
      ap (A.mul v) h ∙ ring3 A AL (λ v u p. v ⊗ (u ⊗ p)) (λ v u p. u ⊗ (v ⊗ p)) refl v u
      (power A v n) ∙ ap (λ n. A.mul u (power A v n)) q

  -- a sum
  pub sum-residue : (u v : (algebra_in L g).carrier) (a b s : Residue) (N : List (List ℕ))
      → IsCongruent (polynomials K.ring) (poly_of K m)
      ((polynomials K.ring).mul (poly_of K a.factor) (poly_of K b.factor)) (poly_of K s.factor)
      → plane_of K N ≡ (polynomials (polynomials K.ring)).add
      ((polynomials (polynomials K.ring)).mul (row_of K.ring (poly_of K b.factor))
      (plane_of K a.plane)) ((polynomials (polynomials K.ring)).mul (row_of K.ring (poly_of K
      a.factor)) (plane_of K b.plane))
      → AreCongruent K m (plane_of K N) (plane_of K s.plane) → IsResidue L g m u a
      → IsResidue L g m v b → IsResidue L g m ((algebra_in L g).add u v) s
  sum-residue u v a b s N hf hn hp h k = record {
    t = A.mul h.t k.t;
    factor = product-factor a.factor b.factor s.factor h.t k.t hf h.factor k.factor;
    plane = residue-congruent F G (poly_of K m) (plane_of K N) (plane_of K s.plane) _ hp
        (residue-plane F G (poly_of K m) _ (plane_of K N) _ (sym hn)
        (residue-equal F G (poly_of K m) _ _ _
        (ring4 A AL (λ s t u v. t ⊗ (s ⊗ u) ⊕ s ⊗ (t ⊗ v)) (λ s t u v. s ⊗ t ⊗ (u ⊕ v)) refl h.t
        k.t u v)
        (residue-add F G (poly_of K m) _ _ _ _
        (residue-factor F G (poly_of K m) (poly_of K b.factor) k.t (plane_of K a.plane) _
        k.factor h.plane) (residue-factor F G (poly_of K m) (poly_of K a.factor) h.t
        (plane_of K b.plane) _ h.factor k.plane))));
  }

  -- a column, from the powers of Y
  pub column-residue : (Y : (algebra_in L g).carrier) (list : ResidueList) (r : Residue)
      (rows : List (List ℕ)) (i : ℕ) → IsPlane K g → 0 < length g → length rows ≤ length list.planes
      → r.factor ≡ list.factor
      → plane_of K r.plane ≡ plane_combination K.ring (length rows) (λ j. constant_at K rows i j)
      (λ j. plane_of K (get_or list.planes j []))
      → AreMultiples L g m (algebra_in L g).one Y list
      → IsResidue L g m (column_of (lawful_field L) (plane_of K g) Y (plane_of K rows)
      (length rows) i) r
  unfolding constant
  column-residue Y list r rows i hg pos enough same e h = record {
    t = h.t;
    factor = subst (λ p. IsFactorResidue F G (poly_of K m) (poly_of K p) h.t) (sym same) h.factor;
    plane = residue-plane F G (poly_of K m) _ (plane_of K r.plane) _ (sym e)
        (residue-equal F G (poly_of K m) _ _ _
        (ap (A.mul h.t) (sum-ext A AL (length rows)
        (λ j. A.mul (value_of F G (row_of F.ring (constant_at K rows i j))) (power A Y j))
        (λ j. A.mul (constant F G (coeff K.ring (coeff (polynomials K.ring) (plane_of K
        rows).coeffs j).coeffs i)) (power A Y j))
        (λ j l. ap (λ a. A.mul (value_of F G (row_of F.ring (const K.ring L.laws L.tests a)))
        (power A Y j)) (sym (plane-entry K L rows j i [] l)))))
        (residue-combination F G (poly_of K m) (omega (arith, pos, plane-size K L g hg))
        (length rows) (λ j. constant_at K rows i j) (λ j. constant_at K rows i j)
        (λ j. plane_of K (get_or list.planes j [])) h.t (λ j. power A Y j)
        (λ j l. congruent-equal D.ring D.laws (poly_of K m) (constant_at K rows i j)
        (constant_at K rows i j) refl)
        (λ j l. residue-equal F G (poly_of K m) _ _ _ (ap (A.mul h.t) (one_mul A AL (power A Y j)))
        (h.planes j (omega (arith, l, enough))))));
  }

  -- a residue of 0
  pub zero-divided : (u : (algebra_in L g).carrier) (r : Residue) → IsResidue L g m u r → u
      ≡ (algebra_in L g).zero → Divides (polynomials (polynomials K.ring)) (row_of K.ring (poly_of K
      m)) (plane_of K r.plane)
  zero-divided u r h e = zero-residue F G (poly_of K m) (plane_of K r.plane) (A.mul h.t u)
      (ap (A.mul h.t) e ∙ mul_zero A AL h.t) h.plane

  -- two residues of one element
  pub same-divided : (u : (algebra_in L g).carrier) (a b : Residue) (minus : List ℕ)
      (N : List (List ℕ)) → poly_of K minus ≡ (polynomials K.ring).neg (poly_of K a.factor)
      → plane_of K N ≡ (polynomials (polynomials K.ring)).add
      ((polynomials (polynomials K.ring)).mul (row_of K.ring (poly_of K b.factor))
      (plane_of K a.plane)) ((polynomials (polynomials K.ring)).mul (row_of K.ring (poly_of K
      minus)) (plane_of K b.plane))
      → IsResidue L g m u a → IsResidue L g m u b
      → Divides (polynomials (polynomials K.ring)) (row_of K.ring (poly_of K m)) (plane_of K N)
  same-divided u a b minus N hm hn h k = zero-residue F G (poly_of K m) (plane_of K N) _
      (ring3 A AL (λ s t u. t ⊗ (s ⊗ u) ⊕ neg (s ⊗ (t ⊗ u))) (λ s t u. nil) refl h.t k.t u)
      (residue-plane F G (poly_of K m) _ (plane_of K N) _ (sym total)
      (residue-add F G (poly_of K m) _ _ _ _
      (residue-factor F G (poly_of K m) (poly_of K b.factor) k.t (plane_of K a.plane) _ k.factor
      h.plane)
      (residue-neg F G (poly_of K m) _ _
      (residue-factor F G (poly_of K m) (poly_of K a.factor) h.t (plane_of K b.plane) _ h.factor
      k.plane))))
    where
      total : plane_of K N ≡ (planes (lawful_field L)).add
          ((planes (lawful_field L)).mul (row_of (lawful_field L).ring (poly_of K b.factor))
          (plane_of K a.plane)) ((planes (lawful_field L)).neg ((planes (lawful_field L)).mul
          (row_of (lawful_field L).ring (poly_of K a.factor)) (plane_of K b.plane)))
      total = hn ∙ ap (P.add (P.mul (row_of F.ring (poly_of K b.factor)) (plane_of K a.plane)))
          (ap (λ p. P.mul (row_of F.ring p) (plane_of K b.plane)) hm
          ∙ ap (λ r. P.mul r (plane_of K b.plane)) ((row_map F).on_neg (poly_of K a.factor))
          ∙ ring2 P (planes_laws F) (λ r n. neg r ⊗ n) (λ r n. neg (r ⊗ n)) refl
          (row_of F.ring (poly_of K a.factor)) (plane_of K b.plane))

  -- a list with one polynomial more
  pub appended-list : (list : ResidueList) (last : Residue) (ps : List (List (List ℕ)))
      (x : List (List ℕ)) (planes : List (List (List ℕ))) → planes ≡ ps ++ x ∷ [] → length ps
      ≡ length list.planes
      → ((j : ℕ) → j < length list.planes
      → AreCongruent K m ((polynomials (polynomials K.ring)).mul
      (row_of K.ring (poly_of K last.factor)) (plane_of K (get_or list.planes j [])))
      (plane_of K (get_or ps j [])))
      → AreCongruent K m ((polynomials (polynomials K.ring)).mul
      (row_of K.ring (poly_of K list.factor)) (plane_of K last.plane)) (plane_of K x)
      → IsAppended K m list last planes
  appended-list list last ps x planes e count h k = record {
    before = λ j l. subst (λ N. AreCongruent K m (P.mul (row_of K.ring (poly_of K last.factor))
        (plane_of K (get_or list.planes j []))) (plane_of K N))
        (sym (ap (λ ys. get_or ys j []) e
        ∙ get_or_append_left ps (x ∷ []) [] j (omega (arith, count, l)))) (h j l);
    end = subst (λ N. AreCongruent K m
        (P.mul (row_of K.ring (poly_of K list.factor)) (plane_of K last.plane)) (plane_of K N))
        (sym (ap (λ ys. get_or ys (length list.planes) []) e
        ∙ get_or_push ps x [] (length list.planes) count)) k;
  }
