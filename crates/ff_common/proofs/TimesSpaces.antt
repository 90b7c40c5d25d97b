-- The multiples by a polynomial of the planes of a space, as a space of vectors.
use Rattle.std.proofs.Common.{◌≡◌, ℕ, zero, suc, ◌<◌, ◌≤◌, ◌⊎◌, inl, inr, List, [], ◌∷◌, length}
use Rattle.std.proofs.Common.{◌+◌, ◌++◌, map, Vec, Global}
use Rattle.std.proofs.lemmas.Bool.{cases_lt}
use Rattle.std.proofs.lemmas.List.{length-map}
use Rattle.std.proofs.Common.{◌↔◌, refl, sym, ◌∙◌, ap, subst, arith}
use Rattle.ff_theory.specs.Ring.{IsCommRing, Elements}
use Rattle.ff_theory.specs.Lawful.{Domain, Field, Lawful, lawful_field}
use Rattle.ff_theory.specs.Poly.{coeff, Poly, poly, polynomials}
use Rattle.ff_theory.specs.Division.{size}
use Rattle.ff_theory.specs.Planes.{planes, Plane, row_of}
use Rattle.ff_theory.specs.Span.{combination, InSpan, SameSpan}
use Rattle.ff_theory.specs.Vector.{vector_of, vectors_of}
use Rattle.ff_theory.proofs.Poly.{polynomial_laws}
use Rattle.ff_theory.proofs.PolyMap.{polynomial_domain}
use Rattle.ff_theory.proofs.Solver.{◌⊗◌, ring3, mul_zero}
use Rattle.ff_theory.proofs.Division.{size_le, size-mul-le, zero_from, const_mul_at}
use Rattle.ff_theory.proofs.Span.{span-inside}
use Rattle.ff_theory.proofs.Sums.{sum-ext, sum-mul}
use Rattle.ff_charts.specs.Lattice.{HasShape, flat, IsTimes}
use Rattle.ff_charts.proofs.Flat.{flat_one}
use Rattle.ff_lin.specs.Space.{SpaceParts, SameSpace}
use Rattle.ff_data.specs.declared.order.Chart.TheVariants.{Finite}
use Rattle.ff_data.specs.Orders.{chart_of, InResidues}
use Rattle.ff_common.specs.Common.{IsTimesVector, IsTimesSpace}
use Rattle.ff_data.proofs.PlaneCombinations.{planes_combined, combined_shape, combined_flat}

module _ (F : Elements ℕ) (L : Lawful F) (n m h : ℕ) (g : Poly F.ring)
    (keeps : (N : Plane (lawful_field L)) → HasShape F.ring n m N
    → HasShape F.ring n h ((planes (lawful_field L)).mul (row_of F.ring g) N))
    (old new : SpaceParts) (rows : ℕ → ℕ → F.carrier) (N : ℕ → Plane (lawful_field L))
    (shape : (i : ℕ) → i < length old.basis → HasShape F.ring n m (N i))
    (vector : (i : ℕ) → i < length old.basis → (j : ℕ) → flat F.ring m (N i) j
    ≡ vectors_of F old.basis i j)
    (products : (i : ℕ) → i < length old.basis → (j : ℕ) → rows i j
    ≡ flat F.ring h ((planes (lawful_field L)).mul (row_of F.ring g) (N i)) j)
    (same : SameSpan F.ring (length new.basis) (vectors_of F new.basis) (length old.basis) rows)
  where
    abbrev K : Field
    K = lawful_field L

    abbrev P : Domain
    P = polynomial_domain (lawful_field L)

    PL : IsCommRing (planes (lawful_field L))
    PL = polynomial_laws P.ring P.laws P.tests

    abbrev r : ℕ
    r = length old.basis

    abbrev times : Plane (lawful_field L) → Plane (lawful_field L)
    times M = (planes (lawful_field L)).mul (row_of F.ring g) M

    abbrev sum_of : (ℕ → F.carrier) → Plane (lawful_field L)
    sum_of c = planes_combined (lawful_field L) c N (length old.basis)

    -- the product with a combination
    times_combined : (c : ℕ → F.carrier)
        → (planes (lawful_field L)).mul (row_of F.ring g)
        (planes_combined (lawful_field L) c N (length old.basis))
        ≡ planes_combined (lawful_field L) c (λ i. times (N i)) (length old.basis)
    times_combined c = sym (sum-mul (planes K) PL r (row_of F.ring g) (λ i. (planes K).mul
        (poly (polynomials F.ring) (poly F.ring (c i ∷ []) ∷ [])) (N i)))
        ∙ sum-ext (planes K) PL r _ _ (λ i q. ring3 (planes K) PL (λ g c n. g ⊗ (c ⊗ n))
        (λ g c n. c ⊗ (g ⊗ n)) refl (row_of F.ring g)
        (poly (polynomials F.ring) (poly F.ring (c i ∷ []) ∷ [])) (N i))

    times_vector : (c : ℕ → F.carrier) (j : ℕ) → flat F.ring h (times (sum_of c)) j
        ≡ combination F.ring (length old.basis) c rows j
    times_vector c j = ap (λ M. flat F.ring h M j) (times_combined c)
        ∙ combined_flat K h c (λ i. times (N i)) r j
        ∙ sum-ext F.ring L.laws r _ _ (λ i q. ap (F.mul (c i)) (sym (products i q j)))

    sum_vector : (c : ℕ → F.carrier) (j : ℕ) → flat F.ring m (sum_of c) j
        ≡ combination F.ring (length old.basis) c (vectors_of F old.basis) j
    sum_vector c j = combined_flat K m c N r j
        ∙ sum-ext F.ring L.laws r _ _ (λ i q. ap (F.mul (c i)) (vector i q j))

    sum_shape : (c : ℕ → F.carrier) → HasShape F.ring n m (sum_of c)
    sum_shape c = combined_shape K n m c N r shape

    pub times_exact : (M : Plane (lawful_field L)) → HasShape F.ring n h M
        → InResidues F h new M ↔ IsTimes F.ring n m g (InResidues F m old) M
    times_exact M whole = (into, back)
      where
        into : InResidues F h new M → IsTimes F.ring n m g (InResidues F m old) M
        into s = record {
          part = sum_of t.coefficients;
          shape = sum_shape t.coefficients;
          is_in = record {
            coefficients = t.coefficients;
            sum = sum_vector t.coefficients;
          };
          product = flat_one K h n M (times (sum_of t.coefficients)) whole
              (keeps (sum_of t.coefficients) (sum_shape t.coefficients))
              (λ j. t.sum j ∙ sym (times_vector t.coefficients j));
        }
          where
            t : InSpan F.ring (length old.basis) rows (flat F.ring h M)
            t = span-inside F.ring L.laws (length new.basis) (vectors_of F new.basis) r rows
                (flat F.ring h M) same.into s

        back : IsTimes F.ring n m g (InResidues F m old) M → InResidues F h new M
        back s = span-inside F.ring L.laws r rows (length new.basis) (vectors_of F new.basis)
            (flat F.ring h M) same.back (record {
              coefficients = c;
              sum = λ j. ap (λ T. flat F.ring h T j) (s.product ∙ ap times part) ∙ times_vector c j;
            })
          where
            c : ℕ → F.carrier
            c = s.is_in.coefficients

            part : s.part ≡ sum_of c
            part = flat_one K m n s.part (sum_of c) s.shape (sum_shape c)
                (λ j. s.is_in.sum j ∙ sym (sum_vector c j))

-- the product is as much longer as the factor
pub times_shape : (K : Field) (n m h : ℕ) (g : Poly K.ring) → size K.ring g + m ≤ h + 1
    → (N : Plane K) → HasShape K.ring n m N
    → HasShape K.ring n h ((planes K).mul (row_of K.ring g) N)
times_shape K n m h g room N s = let D = polynomial_domain K in record {
  rows = size_le D.ring D.laws D.tests ((planes K).mul (row_of K.ring g) N) n
      (λ i q. const_mul_at D.ring D.laws D.tests g N i ∙ ap (D.mul g)
      (zero_from D.ring D.laws D.tests N i (let r : size (polynomials K.ring) N ≤ n = s.rows in
      omega (arith, r, q))) ∙ mul_zero D.ring D.laws g);
  each = λ i. subst (λ p. size K.ring p ≤ h) (sym (const_mul_at D.ring D.laws D.tests g N i))
      (size-mul-le K.ring K.laws K.tests g (coeff (polynomials K.ring) N.coeffs i) h
      (let r : size K.ring (coeff (polynomials K.ring) N.coeffs i) ≤ m = s.each i in
      omega (arith, r, room)));
}

-- one row more
pub row_pushed : {V : Type 0} (F : Elements ℕ) (items : V → List ℕ) (xs : List V) (y : V)
    (P : ℕ → (ℕ → F.carrier) → Type 0) (i : ℕ) → length xs ≡ i
    → ((j : ℕ) → j < i → P j (vectors_of F (map items xs) j)) → P i (vector_of F (items y))
    → (j : ℕ) → j < i + 1 → P j (vectors_of F (map items (xs ++ y ∷ [])) j)
row_pushed F items [] y P i e h k zero l = subst (λ n. P n (vector_of F (items y))) (sym e) k
row_pushed F items [] y P i e h k (suc j) l = absurd (omega arith)
row_pushed F items (x ∷ xs) y P i e h k zero l = h zero (omega arith)
row_pushed F items (x ∷ xs) y P zero e h k (suc j) l = absurd (omega arith)
row_pushed F items (x ∷ xs) y P (suc i) e h k (suc j) l = row_pushed F items xs y
    (λ n. P (suc n)) i (omega arith) (λ m q. h (suc m) (omega arith)) k j (omega arith)

module _ (F : Elements ℕ) (L : Lawful F) (f : List (List ℕ)) (g : Poly F.ring) (m h : ℕ)
    (room : size F.ring g + m ≤ h + 1) (old new : SpaceParts) (basis rows : List (Vec ℕ Global))
    (hb : map (λ v. v.items) basis ≡ old.basis) (len : length rows ≡ length basis)
    (times : (i : ℕ) → i < length basis → IsTimesVector L f g m h
    (vectors_of F (map (λ v. v.items) basis) i) (vectors_of F (map (λ v. v.items) rows) i))
    (same : SameSpace F new.basis (map (λ v. v.items) rows)) where
  count : length basis ≡ length old.basis
  count = sym (length-map basis (λ v. v.items)) ∙ ap length hb

  at : (i : ℕ) → i < length old.basis → IsTimesVector L f g m h
      (vectors_of F old.basis i) (vectors_of F (map (λ v. v.items) rows) i)
  at i l = subst (λ b. IsTimesVector L f g m h (vectors_of F b i)
      (vectors_of F (map (λ v. v.items) rows) i)) hb (times i (omega (arith, l, count)))

  abbrev pick : (i : ℕ) → (i < length old.basis) ⊎ (length old.basis ≤ i)
      → Plane (lawful_field L)
  pick i (inl l) = (at i l).0
  pick i (inr l) = (planes (lawful_field L)).zero

  known : (i : ℕ) (l : i < length old.basis)
      → (c : (i < length old.basis) ⊎ (length old.basis ≤ i))
      → HasShape F.ring (chart_of L f Finite).degree m (pick i c)
      × (((j : ℕ) → flat F.ring m (pick i c) j ≡ vectors_of F old.basis i j) × ((j : ℕ)
      → vectors_of F (map (λ v. v.items) rows) i j ≡ flat F.ring h
      ((planes (lawful_field L)).mul (row_of F.ring g) (pick i c)) j))
  known i l (inl q) = (at i q).1
  known i l (inr q) = absurd (omega (arith, l, q))

  pub times_space_is : IsTimesSpace L f g m h old new
  times_space_is = times_exact F L (chart_of L f Finite).degree m h g
      (times_shape (lawful_field L) (chart_of L f Finite).degree m h g room) old new
      (vectors_of F (map (λ v. v.items) rows)) (λ i. pick i (cases_lt i (length old.basis)))
      (λ i l. (known i l (cases_lt i (length old.basis))).0)
      (λ i l. (known i l (cases_lt i (length old.basis))).1.0)
      (λ i l. (known i l (cases_lt i (length old.basis))).1.1)
      (subst (λ n. SameSpan F.ring (length new.basis) (vectors_of F new.basis) n
      (vectors_of F (map (λ v. v.items) rows)))
      (length-map rows (λ v. v.items) ∙ len ∙ count) same)
