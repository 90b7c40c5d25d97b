-- Rows reduced modulo a polynomial in x, from their remainders one by one.
use Rattle.std.proofs.Common.{◌≡◌, ℕ, zero, suc, ◌+◌, ◌<◌, ◌≤◌, ◌⊎◌, inl, inr, List, [], ◌∷◌, ◌++◌}
use Rattle.std.proofs.Common.{length, map, refl, sym, ◌∙◌, ap, ap₂, subst, arith}
use Rattle.std.proofs.lemmas.Bool.{cases_lt}
use Rattle.std.proofs.lemmas.List.{length-map}
use Rattle.ff_theory.specs.Ring.{RingOps, Elements}
use Rattle.ff_theory.specs.Lawful.{Domain, Field, Lawful, lawful_field}
use Rattle.ff_theory.specs.Poly.{coeff, Poly, poly, polynomials}
use Rattle.ff_theory.specs.Division.{size}
use Rattle.ff_theory.specs.Planes.{row_of}
use Rattle.ff_theory.specs.Values.{poly_of, polys_of, plane_of, IsPoly, IsPlane}
use Rattle.ff_theory.proofs.Solver.{◌⊕◌, ◌⊗◌, nil, ring1, ring3}
use Rattle.ff_theory.proofs.Poly.{Poly_ext}
use Rattle.ff_theory.proofs.Division.{add_at, const_mul_at, coeff-beyond}
use Rattle.ff_theory.proofs.PolyMap.{polynomial_domain, zero_size}
use Rattle.ff_charts.proofs.Rows.{polynomial_of, polynomial_at, polynomial_past}
use Rattle.ff_poly.proofs.LongDivision.{poly-size, poly-size-le}
use Rattle.ff_lattice.specs.Residues.{IsRemainder, AreResidues}
use Rattle.ff_lattice.proofs.Remainders.{poly_at}

-- a loop that pushes one entry after another, of each of which something holds
pub pushed_at : (R : RingOps) {A : Type 0} (f : A → R.carrier) (xs : List A) (y : A)
    (H : ℕ → R.carrier → Type 0) (i : ℕ) → length xs ≡ i
    → ((j : ℕ) → j < i → H j (coeff R (map f xs) j)) → H i (f y) → (j : ℕ) → j < i + 1
    → H j (coeff R (map f (xs ++ y ∷ [])) j)
pushed_at R f [] y H i e h k zero l = subst (λ n. H n (f y)) (sym e) k
pushed_at R f [] y H i e h k (suc j) l = absurd (omega arith)
pushed_at R f (x ∷ xs) y H i e h k zero l = h zero (omega arith)
pushed_at R f (x ∷ xs) y H zero e h k (suc j) l = absurd (omega arith)
pushed_at R f (x ∷ xs) y H (suc i) e h k (suc j) l = pushed_at R f xs y (λ n. H (suc n)) i
    (omega arith) (λ m q. h (suc m) (omega arith)) k j (omega arith)

module _ (K : Field) where
  abbrev D : Domain
  D = polynomial_domain K

  module _ (m : Poly K.ring) (A B : List (Poly K.ring)) (n : ℕ) (pos : 0 < size K.ring m)
      (la : length A ≤ n) (lb : length B ≤ n)
      (h : (i : ℕ) → i < n → IsRemainder K.ring m (coeff (polynomials K.ring) A i)
      (coeff (polynomials K.ring) B i)) where
    -- past the end the quotient is zero
    abbrev pick : (i : ℕ) → (i < n) ⊎ (n ≤ i) → Poly K.ring
    pick i (inl l) = (h i l).0
    pick i (inr l) = D.zero

    abbrev quotient : Poly (polynomials K.ring)
    quotient = polynomial_of (polynomials K.ring) D.laws D.tests n (λ i. pick i (cases_lt i n))

    each_sum : (i : ℕ) (c : (i < n) ⊎ (n ≤ i)) → cases_lt i n ≡ c
        → coeff (polynomials K.ring) A i ≡ D.add (coeff (polynomials K.ring) B i)
        (D.mul m (coeff (polynomials K.ring) quotient.coeffs i))
    each_sum i (inl l) e = (h i l).1.sum
        ∙ ring3 (polynomials K.ring) D.laws (λ q m r. q ⊗ m ⊕ r) (λ q m r. r ⊕ m ⊗ q) refl
        (h i l).0 m (coeff (polynomials K.ring) B i)
        ∙ ap (λ q. D.add (coeff (polynomials K.ring) B i) (D.mul m q)) (sym (ap (pick i) e))
        ∙ ap (λ q. D.add (coeff (polynomials K.ring) B i) (D.mul m q))
        (sym (polynomial_at (polynomials K.ring) D.laws D.tests n (λ i. pick i (cases_lt i n)) i l))
    each_sum i (inr l) e =
        coeff-beyond (polynomials K.ring) D.laws D.tests A i (omega (arith, la, l))
        ∙ ring1 (polynomials K.ring) D.laws (λ m. nil) (λ m. nil ⊕ m ⊗ nil) refl m
        ∙ ap₂ (λ r q. D.add r (D.mul m q))
        (sym (coeff-beyond (polynomials K.ring) D.laws D.tests B i (omega (arith, lb, l))))
        (sym (polynomial_past (polynomials K.ring) D.laws D.tests n (λ i. pick i
        (cases_lt i n)) i l))

    each_size : (i : ℕ) → (i < n) ⊎ (n ≤ i) → size K.ring (coeff (polynomials K.ring) B i)
        < size K.ring m
    each_size i (inl l) = (h i l).1.smaller
    each_size i (inr l) =
        let s = ap (size K.ring)
        (coeff-beyond (polynomials K.ring) D.laws D.tests B i (omega (arith, lb, l))) in
        let z = zero_size K in omega (arith, s, z, pos)

    pub residues_by_rows : size (polynomials K.ring) (poly (polynomials K.ring) B)
        ≤ size (polynomials K.ring) (poly (polynomials K.ring) A)
        → AreResidues K.ring m (poly (polynomials K.ring) A) (poly (polynomials K.ring) B)
    residues_by_rows rows = record {
      quotient = quotient;
      sum = Poly_ext (polynomials K.ring) D.laws D.tests (poly (polynomials K.ring) A)
          ((polynomials (polynomials K.ring)).add (poly (polynomials K.ring) B)
          ((polynomials (polynomials K.ring)).mul (row_of K.ring m) quotient))
          (λ i. poly_at (polynomials K.ring) D.laws D.tests A i ∙ each_sum i (cases_lt i n) refl
          ∙ ap₂ D.add (sym (poly_at (polynomials K.ring) D.laws D.tests B i))
          (sym (const_mul_at (polynomials K.ring) D.laws D.tests m quotient i))
          ∙ sym (add_at (polynomials K.ring) D.laws D.tests (poly (polynomials K.ring) B)
          ((polynomials (polynomials K.ring)).mul (row_of K.ring m) quotient) i));
      each = λ i. let s = each_size i (cases_lt i n) in let e = ap (size K.ring)
          (poly_at (polynomials K.ring) D.laws D.tests B i) in omega (arith, s, e);
      rows = rows;
    }

-- the same for lists
pub residues_of_lists : {F : Elements ℕ} (L : Lawful F) (m : List ℕ) (a rows items r : List
    (List ℕ))
    → IsPoly F m → 0 < length m → IsPlane F a → rows ≡ a → length items ≡ length rows
    → ((i : ℕ) → i < length rows → IsRemainder F.ring (poly_of F m)
    (coeff (polynomials F.ring) (polys_of F rows) i)
    (coeff (polynomials F.ring) (polys_of F items) i)) → plane_of F r ≡ plane_of F items
    → AreResidues F.ring (poly_of F m) (plane_of F a) (plane_of F r)
residues_of_lists {F = F} L m a rows items r hm pos ha e len h v =
    let D = polynomial_domain (lawful_field L) in
    let sm = poly-size F.ring L.laws L.tests F.value m hm.canonical in
    let sa : size (polynomials F.ring) (plane_of F a) ≡ length a =
    poly-size (polynomials F.ring) D.laws D.tests (λ p. poly_of F p) a ha.canonical in
    let sr : size (polynomials F.ring) (plane_of F items) ≤ length items =
    poly-size-le (polynomials F.ring) D.laws D.tests (λ p. poly_of F p) items in
    let en = ap length e in
    let ea : size (polynomials F.ring) (plane_of F rows)
    ≡ size (polynomials F.ring) (plane_of F a) =
    ap (λ a. size (polynomials F.ring) (plane_of F a)) e in
    let la = length-map rows (λ p. poly_of F p) in
    let lb = length-map items (λ p. poly_of F p) in
    subst (λ s. AreResidues F.ring (poly_of F m) (plane_of F a) s) (sym v)
    (subst (λ a. AreResidues F.ring (poly_of F m) (plane_of F a) (plane_of F items)) e
    (residues_by_rows (lawful_field L) (poly_of F m) (polys_of F rows) (polys_of F items)
    (length rows) (omega (arith, sm, pos)) (omega (arith, la)) (omega (arith, lb, len)) h
    (omega (arith, sr, sa, ea, en, len))))
