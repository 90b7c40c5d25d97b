-- The quotients of the rows of a plane by a polynomial.
use Rattle.std.proofs.Common.{◌≡◌, ℕ, suc, ◌+◌, ◌*◌, ◌<◌, ◌≤◌, ◌⊎◌, inl, inr, List, length, false}
use Rattle.std.proofs.Common.{refl}
use Rattle.std.proofs.Common.{sym, ◌∙◌, ap, subst, arith}
use Rattle.std.proofs.lemmas.Bool.{cases_lt}
use Rattle.std.proofs.lemmas.List.{length-map}
use Rattle.ff_theory.specs.Ring.{Elements, power}
use Rattle.ff_theory.specs.Lawful.{Domain, Field, Lawful, lawful_field}
use Rattle.ff_theory.specs.Poly.{coeff, Poly, polynomials}
use Rattle.ff_theory.specs.Division.{size, IsDivision}
use Rattle.ff_theory.specs.Monomial.{variable}
use Rattle.ff_theory.specs.Planes.{planes, Plane, row_of}
use Rattle.ff_theory.specs.Values.{poly_of, polys_of, plane_of, IsPoly}
use Rattle.ff_theory.proofs.Solver.{◌⊕◌, ◌⊗◌, nil, unit, ring1, ring3}
use Rattle.ff_theory.proofs.Poly.{Poly_ext}
use Rattle.ff_theory.proofs.Division.{add_at, const_mul_at, coeff-beyond, one_division}
use Rattle.ff_theory.proofs.PolyMap.{polynomial_domain, zero_size, nonzero_size}
use Rattle.ff_lattice.proofs.Remainders.{poly_at}
use Rattle.ff_elem.proofs.PolyLemmas.{poly-nonzero}
use Rattle.ff_data.specs.Numerators.{AreQuotients}
use Rattle.ff_data.specs.Quotients.{IsRaisedQuotient}

module _ (K : Field) where
  abbrev D : Domain
  D = polynomial_domain K

  zero_division : (d : Poly K.ring) → (polynomials K.ring).same d (polynomials K.ring).zero ≡ false
      → IsDivision K.ring D.zero d D.zero D.zero
  zero_division d nd = record {
    sum = ring1 D.ring D.laws (λ d. nil) (λ d. nil ⊗ d ⊕ nil) refl d;
    smaller = let s = (nonzero_size K d nd).1 in let z = zero_size K in omega (arith, s, z);
  }

  -- a plane with short rows and d times a plane: the quotients by d are that plane
  pub quotient_is : (d : Poly K.ring)
      → (polynomials K.ring).same d (polynomials K.ring).zero ≡ false
      → (N q R Q : Plane K) → N ≡ (planes K).add R ((planes K).mul (row_of K.ring d) Q)
      → ((i : ℕ) → size K.ring (coeff (polynomials K.ring) R.coeffs i) < size K.ring d)
      → ((i : ℕ) → (r : Poly K.ring) × IsDivision K.ring (coeff (polynomials K.ring) N.coeffs i) d
      (coeff (polynomials K.ring) q.coeffs i) r) → q ≡ Q
  quotient_is d nd N q R Q e small h = Poly_ext D.ring D.laws D.tests q Q (λ i.
      (one_division K d k.0 k.1
      (coeff (polynomials K.ring) N.coeffs i) (coeff (polynomials K.ring) q.coeffs i) (h i).0
      (coeff (polynomials K.ring) Q.coeffs i) (coeff (polynomials K.ring) R.coeffs i) (h i).1
      (record {
        sum = ap (λ (T : Plane K). coeff (polynomials K.ring) T.coeffs i) e
            ∙ add_at D.ring D.laws D.tests R ((planes K).mul (row_of K.ring d) Q) i
            ∙ ap (D.add (coeff (polynomials K.ring) R.coeffs i))
            (const_mul_at D.ring D.laws D.tests d Q i)
            ∙ ring3 D.ring D.laws (λ r d q. r ⊕ d ⊗ q) (λ r d q. q ⊗ d ⊕ r) refl
            (coeff (polynomials K.ring) R.coeffs i) d (coeff (polynomials K.ring) Q.coeffs i);
        smaller = small i;
      })).0)
    where
      k : (k : ℕ) × (size K.ring d ≡ suc k)
      k = nonzero_size K d nd

module _ (F : Elements ℕ) (L : Lawful F) where
  abbrev P : Domain
  P = polynomial_domain (lawful_field L)

  division_at : (d a b q p r : Poly F.ring) → a ≡ b → q ≡ p → IsDivision F.ring a d q r
      → IsDivision F.ring b d p r
  division_at d a b q p r e k h = subst (λ s. IsDivision F.ring s d p r) e
      (subst (λ s. IsDivision F.ring a d s r) k h)

  -- the quotients one by one
  pub quotients_by_rows : (rows items r : List (List ℕ)) (d : List ℕ) → IsPoly F d → 0 < length d
      → length items ≡ length rows
      → ((i : ℕ) → i < length rows → IsRaisedQuotient F (poly_of F d) ((0 + i) * 0)
      (coeff (polynomials F.ring) (polys_of F rows) i)
      (coeff (polynomials F.ring) (polys_of F items) i))
      → plane_of F r ≡ plane_of F items
      → AreQuotients F (poly_of F d) (plane_of F rows) (plane_of F r)
  quotients_by_rows rows items r d hd pos len h e i = go (cases_lt i (length rows))
    where
      row : (xs : List (List ℕ)) → coeff (polynomials F.ring) (plane_of F xs).coeffs i
          ≡ coeff (polynomials F.ring) (polys_of F xs) i
      row xs = poly_at P.ring P.laws P.tests (polys_of F xs) i

      past : (xs : List (List ℕ)) → length xs ≤ i
          → coeff (polynomials F.ring) (plane_of F xs).coeffs i ≡ P.zero
      past xs l = row xs ∙ coeff-beyond P.ring P.laws P.tests (polys_of F xs) i
          (let s = length-map xs (λ p. poly_of F p) in omega (arith, s, l))

      quotient : coeff (polynomials F.ring) (plane_of F items).coeffs i
          ≡ coeff (polynomials F.ring) (plane_of F r).coeffs i
      quotient = ap (λ (T : Poly (polynomials F.ring)). coeff (polynomials F.ring) T.coeffs i)
          (sym e)

      same : (a : Poly F.ring)
          → P.mul (power P.ring (variable F.ring) ((0 + i) * 0)) a ≡ a
      same a = (let z : (0 + i) * 0 ≡ 0 = omega arith in
          ap (λ n. P.mul (power P.ring (variable F.ring) n) a) z)
          ∙ ring1 P.ring P.laws (λ a. unit ⊗ a) (λ a. a) refl a

      go : (i < length rows) ⊎ (length rows ≤ i) → (s : Poly F.ring) × IsDivision F.ring
          (coeff (polynomials F.ring) (plane_of F rows).coeffs i) (poly_of F d)
          (coeff (polynomials F.ring) (plane_of F r).coeffs i) s
      go (inl l) = (
        (h i l).0,
        division_at (poly_of F d) _ _ _ _ (h i l).0
            (same (coeff (polynomials F.ring) (polys_of F rows) i) ∙ sym (row rows))
            (sym (row items) ∙ quotient) (h i l).1,
      )
      go (inr l) = (
        P.zero,
        division_at (poly_of F d) _ _ _ _ P.zero (sym (past rows l))
            (sym (past items (omega (arith, len, l))) ∙ quotient)
            (zero_division (lawful_field L) (poly_of F d) (poly-nonzero F L d hd pos)),
      )
