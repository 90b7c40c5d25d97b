-- Rows that are divided by a common divisor: crosswise products with two polynomials in x agree.
use Rattle.std.proofs.Common.{◌≡◌, ℕ, zero, suc, ◌<◌, ◌≤◌, ◌⊎◌, inl, inr, List, [], ◌∷◌, ◌++◌}
use Rattle.std.proofs.Common.{length, map, take, drop, refl, sym, ◌∙◌, ap, arith}
use Rattle.std.proofs.lemmas.Bool.{cases_lt, eqb-true}
use Rattle.std.proofs.lemmas.List.{length-map}
use Rattle.ff_theory.specs.Ring.{RingOps, IsCommRing, Elements}
use Rattle.ff_theory.specs.Lawful.{Lawful, lawful_field, Domain}
use Rattle.ff_theory.specs.Poly.{Poly, polynomials, coeff, list_scale}
use Rattle.ff_theory.proofs.Solver.{◌⊕◌, ◌⊗◌, nil, ring2, zero_mul}
use Rattle.ff_theory.proofs.Poly.{polynomial_laws, scale-coeff}
use Rattle.ff_theory.proofs.Coeffs.{coeff-past, poly_ext}
use Rattle.ff_theory.proofs.PolyMap.{polynomial_domain}
use Rattle.ff_theory.specs.Planes.{planes, Plane, row_of}
use Rattle.ff_theory.specs.LowestTerms.{IsLowest}
use Rattle.ff_theory.proofs.Element.{lowest_nonzero}
use Rattle.ff_theory.specs.Values.{poly_of, IsPoly, plane_of}
use Rattle.ff_theory.proofs.Monomial.{monomial-mul}
use Rattle.ff_elem.specs.Euclid.{IsStep}
use Rattle.ff_elem.specs.declared.euclid.Multiple.{Multiple}
use Rattle.ff_elem.proofs.PolyLemmas.{poly-nonzero}

module _ (K : Elements ℕ) (L : Lawful K) where
  abbrev D : Domain
  D = polynomial_domain (lawful_field L)

  abbrev P : RingOps
  P = planes (lawful_field L)

  PL : IsCommRing (planes (lawful_field L))
  PL = polynomial_laws D.ring D.laws D.tests

  abbrev at : List (List ℕ) → ℕ → Poly K.ring
  at rows i = coeff (polynomials K.ring) (map (λ p. poly_of K p) rows) i

  module _ (t d : Poly K.ring) where
    nothing : (polynomials K.ring).mul (polynomials K.ring).zero t
        ≡ (polynomials K.ring).mul (polynomials K.ring).zero d
    nothing = zero_mul D.ring D.laws t ∙ sym (zero_mul D.ring D.laws d)

    everywhere : (Q rows : List (List ℕ)) → length Q ≡ length rows
        → ((i : ℕ) → i < length rows → D.mul (at Q i) t ≡ D.mul (at rows i) d) → (i : ℕ)
        → D.mul (at Q i) t ≡ D.mul (at rows i) d
    everywhere Q rows len h i = go (cases_lt i (length rows))
      where
        go : (i < length rows) ⊎ (length rows ≤ i) → D.mul (at Q i) t ≡ D.mul (at rows i) d
        go (inl l) = h i l
        go (inr l) = ap (λ c. D.mul c t)
            (coeff-past D.ring (λ p. poly_of K p) Q i (omega (arith, len, l))) ∙ nothing
            ∙ ap (λ c. D.mul c d) (sym (coeff-past D.ring (λ p. poly_of K p) rows i l))

    front : (v w Q : List (List ℕ)) → length Q ≡ length (v ++ w)
        → ((i : ℕ) → D.mul (at Q i) t ≡ D.mul (at (v ++ w) i) d) → (i : ℕ)
        → D.mul (at (take (length v) Q) i) t ≡ D.mul (at v i) d
    front [] w Q len h i = nothing
    front (p ∷ v) w [] len h i = absurd (omega (arith, len))
    front (p ∷ v) w (q ∷ Q) len h zero = h zero
    front (p ∷ v) w (q ∷ Q) len h (suc i) = front v w Q (omega (arith, len)) (λ j. h (suc j)) i

    back : (v w Q : List (List ℕ)) → length Q ≡ length (v ++ w)
        → ((i : ℕ) → D.mul (at Q i) t ≡ D.mul (at (v ++ w) i) d) → (i : ℕ)
        → D.mul (at (drop (length v) Q) i) t ≡ D.mul (at w i) d
    back [] w Q len h i = h i
    back (p ∷ v) w [] len h i = absurd (omega (arith, len))
    back (p ∷ v) w (q ∷ Q) len h i = back v w Q (omega (arith, len)) (λ j. h (suc j)) i

    -- row by row, and the planes
    crosswise : (M N : List (List ℕ)) → ((i : ℕ) → D.mul (at M i) t ≡ D.mul (at N i) d)
        → P.mul (row_of K.ring t) (plane_of K M) ≡ P.mul (row_of K.ring d) (plane_of K N)
    crosswise M N h = monomial-mul D.ring D.laws D.tests 0 t (map (λ p. poly_of K p) M)
        ∙ poly_ext D.ring D.laws D.tests (list_scale D.ring t (map (λ p. poly_of K p) M))
        (list_scale D.ring d (map (λ p. poly_of K p) N))
        (λ i. scale-coeff D.ring D.laws D.tests t (map (λ p. poly_of K p) M) i
        ∙ D.laws.mul_comm t (at M i) ∙ h i ∙ D.laws.mul_comm (at N i) d
        ∙ sym (scale-coeff D.ring D.laws D.tests d (map (λ p. poly_of K p) N) i))
        ∙ sym (monomial-mul D.ring D.laws D.tests 0 d (map (λ p. poly_of K p) N))

  pub lowest-count : (n : ℕ) (d : List ℕ) (Q : List (List ℕ))
      → IsLowest (lawful_field L) n (poly_of K d) (map (λ p. poly_of K p) Q) → length Q ≡ n
  lowest-count n d Q low = sym (length-map Q (λ p. poly_of K p))
      ∙ eqb-true (length (map (λ p. poly_of K p) Q)) n low.count

  -- the rows of a pair in lowest terms over one of them
  pub primitive-step : (a by r : Multiple) (n : ℕ) (rows Q : List (List ℕ)) (t d : List ℕ) → rows
      ≡ a.value ++ a.factor → n ≡ length a.value → IsPoly K t → 0 < length t
      → IsLowest (lawful_field L) (length rows) (poly_of K d) (map (λ p. poly_of K p) Q)
      → ((i : ℕ) → i < length rows → (polynomials K.ring).mul (coeff (polynomials K.ring) (map (λ p.
      poly_of K p) Q) i) (poly_of K t)
      ≡ (polynomials K.ring).mul (coeff (polynomials K.ring) (map (λ p. poly_of K p) rows) i)
      (poly_of K d))
      → plane_of K r.value ≡ plane_of K (take n Q) → plane_of K r.factor ≡ plane_of K (drop n Q)
      → IsStep K a by r
  primitive-step a by r n rows Q t d all size ht lt low equal value factor = record {
    g = poly_of K t;
    g_nonzero = poly-nonzero K L t ht lt;
    e = poly_of K d;
    e_nonzero = lowest_nonzero (lawful_field L) (plane_of K []) (length rows) (poly_of K d)
        (map (λ p. poly_of K p) Q) low;
    q = P.zero;
    values = ap (P.mul (row_of K.ring (poly_of K t))) (value ∙ ap (λ n. plane_of K (take n Q)) size)
        ∙ crosswise (poly_of K t) (poly_of K d) (take (length a.value) Q) a.value
        (front (poly_of K t) (poly_of K d) a.value a.factor Q count each)
        ∙ plus (row_of K.ring (poly_of K d)) (plane_of K a.value) (plane_of K by.value);
    factors = ap (P.mul (row_of K.ring (poly_of K t)))
        (factor ∙ ap (λ n. plane_of K (drop n Q)) size)
        ∙ crosswise (poly_of K t) (poly_of K d) (drop (length a.value) Q) a.factor
        (back (poly_of K t) (poly_of K d) a.value a.factor Q count each)
        ∙ plus (row_of K.ring (poly_of K d)) (plane_of K a.factor) (plane_of K by.factor);
  }
    where
      plus : (x y z : Plane (lawful_field L)) → P.mul x y ≡ P.add (P.mul x y) (P.mul P.zero z)
      plus x y z = ring2 P PL (λ s z. s) (λ s z. s ⊕ nil ⊗ z) refl (P.mul x y) z

      count : length Q ≡ length (a.value ++ a.factor)
      count = lowest-count (length rows) d Q low ∙ ap length all

      each : (i : ℕ) → D.mul (at Q i) (poly_of K t)
          ≡ D.mul (at (a.value ++ a.factor) i) (poly_of K d)
      each i = everywhere (poly_of K t) (poly_of K d) Q rows (count ∙ sym (ap length all)) equal i
          ∙ ap (λ rows. D.mul (at rows i) (poly_of K d)) all
