-- Planes with one row that is not 0, and the polynomial u - a, as lists.
use Rattle.std.proofs.Common.{◌≡◌, ℕ, zero, suc, ◌+◌, ◌<◌, ◌≤◌, ◌⊎◌, inl, inr, List, [], ◌∷◌, ◌++◌}
use Rattle.std.proofs.Common.{length, refl, sym, ◌∙◌, ap, ap₂, subst, arith}
use Rattle.std.proofs.lemmas.Bool.{cases_lt}
use Rattle.ff_theory.specs.Ring.{RingOps, IsCommRing, Elements, power}
use Rattle.ff_theory.specs.Lawful.{Domain, Field, Lawful, lawful_field}
use Rattle.ff_theory.specs.Poly.{coeff, Poly, poly, polynomials}
use Rattle.ff_theory.specs.Division.{size}
use Rattle.ff_theory.specs.Map.{IsMap}
use Rattle.ff_theory.specs.Monomial.{raised, monomial}
use Rattle.ff_theory.specs.Eval.{eval_list, eval}
use Rattle.ff_theory.specs.Values.{poly_of, IsPoly}
use Rattle.ff_theory.proofs.Solver.{◌⊕◌, ◌⊗◌, nil, unit, ring2, ring3}
use Rattle.ff_theory.proofs.Poly.{trim-coeff}
use Rattle.ff_theory.proofs.Division.{size_le, coeff-beyond, size-mul}
use Rattle.ff_theory.proofs.PolyMap.{polynomial_domain, zero_size, nonzero_size}
use Rattle.ff_theory.proofs.Monomial.{raised-below, raised-at, raised-past}
use Rattle.ff_theory.proofs.Evaluate.{at_trim}
use Rattle.ff_charts.specs.Chart.{Chart, at_u, at_theta, IsChart}
use Rattle.ff_charts.specs.Lattice.{HasShape}
use Rattle.ff_charts.proofs.Chart.{at_u_map}
use Rattle.ff_charts.proofs.Rows.{exact_size}
use Rattle.ff_local.specs.ChartOrder.{root_at}
use Rattle.ff_poly.proofs.LongDivision.{poly-size}
use Rattle.ff_elem.proofs.PolyLemmas.{poly-nonzero}

-- lists of zeros that grow at the end
pub raised_zero : (R : RingOps) (n : ℕ) → raised R n [] ++ R.zero ∷ [] ≡ raised R (suc n) []
raised_zero R zero = refl
raised_zero R (suc n) = ap (λ l. R.zero ∷ l) (raised_zero R n)

pub raised_last : (R : RingOps) (n : ℕ) (p : R.carrier) → raised R n [] ++ p ∷ []
    ≡ raised R n (p ∷ [])
raised_last R zero p = refl
raised_last R (suc n) p = ap (λ l. R.zero ∷ l) (raised_last R n p)

module _ (K : Field) where
  abbrev D : Domain
  D = polynomial_domain K

  root_size : (a : K.carrier) → size K.ring (root_at K.ring a) ≡ 2
  unfolding poly
  root_size a = exact_size K.ring K.laws K.tests (root_at K.ring a) 1
      (λ e. K.is_field.one_not_zero
      (sym (trim-coeff K.ring K.laws K.tests (K.neg a ∷ K.one ∷ []) 1) ∙ e))
      (λ i q. trim-coeff K.ring K.laws K.tests (K.neg a ∷ K.one ∷ []) i
      ∙ coeff-beyond K.ring K.laws K.tests (K.neg a ∷ K.one ∷ []) i (omega arith))

  -- the row i alone
  monomial_at : (p : Poly K.ring) (i j : ℕ)
      → coeff (polynomials K.ring) (monomial (polynomials K.ring) p i).coeffs j
      ≡ coeff (polynomials K.ring) (raised (polynomials K.ring) i (p ∷ [])) j
  unfolding poly
  monomial_at p i j = trim-coeff (polynomials K.ring) D.laws D.tests
      (raised (polynomials K.ring) i (p ∷ [])) j

  monomial_past : (p : Poly K.ring) (i j : ℕ) → i < j
      → coeff (polynomials K.ring) (monomial (polynomials K.ring) p i).coeffs j
      ≡ (polynomials K.ring).zero
  monomial_past p i j q = monomial_at p i j ∙ raised-past (polynomials K.ring) i (p ∷ []) j
      (let e : i + 1 ≤ j = omega (arith, q) in e)

  pub monomial_shape : (n l i : ℕ) (p : Poly K.ring) → i < n → size K.ring p ≤ l
      → HasShape K.ring n l (monomial (polynomials K.ring) p i)
  monomial_shape n l i p below small = record {
    rows = size_le (polynomials K.ring) D.laws D.tests (monomial (polynomials K.ring) p i) n
        (λ j q. monomial_past p i j (omega (arith, below, q)));
    each = λ j. go j (cases_lt j i) (cases_lt i j);
  }
    where
      of_zero : (j : ℕ)
          → coeff (polynomials K.ring) (monomial (polynomials K.ring) p i).coeffs j
          ≡ (polynomials K.ring).zero
          → size K.ring (coeff (polynomials K.ring) (monomial (polynomials K.ring) p i).coeffs j)
          ≤ l
      of_zero j e = subst (λ t. size K.ring t ≤ l) (sym e)
          (let z : size K.ring (polynomials K.ring).zero ≡ 0 = zero_size K in omega (arith, z))

      go : (j : ℕ) → (j < i) ⊎ (i ≤ j) → (i < j) ⊎ (j ≤ i)
          → size K.ring (coeff (polynomials K.ring) (monomial (polynomials K.ring) p i).coeffs j)
          ≤ l
      go j (inl q) b = of_zero j (monomial_at p i j ∙ raised-below (polynomials K.ring) i (p ∷ []) j
          q)
      go j (inr q) (inl r) = of_zero j (monomial_past p i j r)
      go j (inr q) (inr r) = subst (λ t. size K.ring t ≤ l)
          (sym (monomial_at p i j ∙ raised-at (polynomials K.ring) i (p ∷ []) 0 j
          (let e : j ≡ i + 0 = omega (arith, q, r) in e))) small

  -- its value is that of p times a power of theta
  module _ (A : RingOps) (AL : IsCommRing A) (c : Chart K.ring A) (l : IsChart K.ring A c) where
    m : IsMap (polynomials K.ring) A (at_u c)
    m = at_u_map K A AL c l

    raised_value : (p : Poly K.ring) (i : ℕ) → eval_list A (at_u c) c.theta
        (raised (polynomials K.ring) i (p ∷ [])) ≡ A.mul (at_u c p) (power A c.theta i)
    raised_value p zero = ring2 A AL (λ a y. a ⊕ y ⊗ nil) (λ a y. a ⊗ unit) refl (at_u c p) c.theta
    raised_value p (suc i) = ap₂ (λ s t. A.add s (A.mul c.theta t)) m.on_zero (raised_value p i)
        ∙ ring3 A AL (λ a y b. nil ⊕ y ⊗ (a ⊗ b)) (λ a y b. a ⊗ (y ⊗ b)) refl (at_u c p) c.theta
        (power A c.theta i)

    pub monomial_theta : (p : Poly K.ring) (i : ℕ)
        → at_theta c (monomial (polynomials K.ring) p i)
        ≡ A.mul (at_u c p) (power A c.theta i)
    unfolding poly eval
    monomial_theta p i = at_trim (polynomials K.ring) A D.laws D.tests AL (at_u c) m c.theta
        (raised (polynomials K.ring) i (p ∷ [])) ∙ raised_value p i

-- a polynomial in code that is u - a
module _ (F : Elements ℕ) (L : Lawful F) where
  pub root_list : (r : List ℕ) (a : F.carrier) → IsPoly F r → poly_of F r ≡ root_at F.ring a
      → length r ≡ 2
  root_list r a h e = sym (poly-size F.ring L.laws L.tests F.value r h.canonical)
      ∙ ap (size F.ring) e ∙ root_size (lawful_field L) a

-- more coefficients in a row
pub shape_wider : (k : RingOps) (n l m : ℕ) (N : Poly (polynomials k)) → l ≤ m
    → HasShape k n l N → HasShape k n m N
shape_wider k n l m N q s = record {
  rows = s.rows;
  each = λ i. let e : size k (coeff (polynomials k) N.coeffs i) ≤ l = s.each i in
      omega (arith, e, q);
}

-- a polynomial in code that is (u - a) * d
module _ (F : Elements ℕ) (L : Lawful F) where
  pub product_list : (r d : List ℕ) (a : F.carrier) → IsPoly F r → IsPoly F d → 0 < length d
      → poly_of F r ≡ (polynomials F.ring).mul (root_at F.ring a) (poly_of F d)
      → length r ≡ length d + 1
  product_list r d a h k some e = go (nonzero_size (lawful_field L) (poly_of F d)
      (poly-nonzero F L d k some))
    where
      size_r : size F.ring (poly_of F r) ≡ length r
      size_r = poly-size F.ring L.laws L.tests F.value r h.canonical

      size_d : size F.ring (poly_of F d) ≡ length d
      size_d = poly-size F.ring L.laws L.tests F.value d k.canonical

      go : (n : ℕ) × (size F.ring (poly_of F d) ≡ suc n) → length r ≡ length d + 1
      go n = let p = ap (size F.ring) e
          ∙ size-mul (lawful_field L) (root_at F.ring a) (poly_of F d) 1 n.0
          (root_size (lawful_field L) a) n.1 in
          let q = n.1 in
          omega (arith, p, q, size_r, size_d)
