-- A basis of an order of a chart modulo u - a and a table of its products, by vectors.
use Rattle.std.proofs.Common.{◌≡◌, ℕ, pred, ◌<◌, ◌≤◌, ◌↔◌, false, refl, sym, ◌∙◌, ap, ap₂}
use Rattle.std.proofs.Common.{subst, arith}
use Rattle.ff_theory.specs.Ring.{RingOps, IsCommRing}
use Rattle.ff_theory.specs.Lawful.{Domain, Field}
use Rattle.ff_theory.specs.Map.{IsMap}
use Rattle.ff_theory.specs.Monomial.{monomial}
use Rattle.ff_theory.specs.Poly.{coeff, Poly, polynomials}
use Rattle.ff_theory.specs.Division.{size, IsDivision}
use Rattle.ff_theory.specs.Planes.{planes, Plane, row_of}
use Rattle.ff_theory.specs.Span.{combination, InSpan}
use Rattle.ff_theory.proofs.Solver.{◌⊕◌, ◌⊗◌, neg, nil, ring1, ring2, ring3, ring4}
use Rattle.ff_theory.proofs.Poly.{polynomial_laws}
use Rattle.ff_theory.proofs.PolyMap.{polynomial_domain, zero_size, nonzero_size}
use Rattle.ff_charts.specs.Chart.{Chart, at_u, at_theta, IsChart}
use Rattle.ff_charts.specs.Lattice.{HasShape, IsResidue, flat}
use Rattle.ff_charts.proofs.Chart.{at_u_map, at_theta_map, row_times, cancel_u, powers_mul}
use Rattle.ff_charts.proofs.Chart.{powers_u}
use Rattle.ff_charts.proofs.Rows.{polynomial_past}
use Rattle.ff_local.specs.Point.{OrderIn, IsSpanned, combined}
use Rattle.ff_local.specs.ChartOrder.{ChartOrder, InChartOrder, root_at, plane_sum}
use Rattle.ff_local.specs.ChartPole.{pole_modulus}
use Rattle.ff_local.specs.ChartFibre.{ChartFibre, IsRootMultiple, IsNumerator, IsCongruentTo}
use Rattle.ff_local.specs.ChartFibre.{IsThetaPower, IsProductEntry}
use Rattle.ff_local.proofs.ChartOrder.{order_in, powers_in}
use Rattle.ff_local.proofs.Orders.{in_neg}
use Rattle.ff_local.proofs.ChartSpanning.{sum_at_theta, in_over, shape_less}
use Rattle.ff_local.proofs.Quotients.{times_over}
use Rattle.ff_values.proofs.MultipleVectors.{combination_into, combination_back, sum_back}
use Rattle.ff_values.proofs.SpannedNumerators.{first_modulus, numerator_spans, element_numerator}
use Rattle.ff_values.proofs.ProductNumerators.{product_quotient, residue_numerator, product_is}
use Rattle.ff_data.proofs.PlaneQuotients.{quotient_is}
use Rattle.ff_fibre.proofs.PowerPlanes.{monomial_theta, monomial_shape}

module _ (K : Field) (A : RingOps) (AL : IsCommRing A) (c : Chart K.ring A) (l : IsChart K.ring A c)
    (o : ChartOrder c) (a : K.carrier) (modulus : c.IsModulus (root_at K.ring a)) where
  infixl 60 ◌+◌
  infixl 70 ◌*◌
  open A use {add as ◌+◌, mul as ◌*◌, neg as minus, carrier as C}

  abbrev D : Domain
  D = polynomial_domain K

  PL : IsCommRing (planes K)
  PL = polynomial_laws D.ring D.laws D.tests

  abbrev O : OrderIn
  O = order_in K A AL c l o a modulus

  -- the number of coefficients of a row of a numerator
  abbrev ld : ℕ
  ld = pred (size K.ring (pole_modulus c o a 1))

  abbrev over : Plane K → C
  over N = l.inverse o.modulus * at_theta c N

  V : IsMap (planes K) A (at_theta c)
  V = at_theta_map K A AL c l

  modulus_nonzero : D.same o.modulus D.zero ≡ false
  modulus_nonzero = l.modulus_nonzero o.modulus o.is_modulus

  -- up to a vector of the span of w
  abbrev pub IsNear : (q : ℕ) (w : ℕ → ℕ → K.carrier) (r : ℕ) (v : ℕ → ℕ → K.carrier)
      (u e : ℕ → K.carrier) → Type 0
  IsNear q w r v u e = InSpan K.ring q w
      (λ j. K.add (u j) (K.neg (combination K.ring r e v j)))

  -- e are the coordinates of the product of M and N over d
  pub record IsEntry (q : ℕ) (w : ℕ → ℕ → K.carrier) (r : ℕ) (v : ℕ → ℕ → K.carrier)
      (M N : Plane K) (e : ℕ → K.carrier) : Type 0 where
    pub square : Plane K
    pub few : size (polynomials K.ring) square ≤ c.degree
    pub square_is : at_theta c square ≡ A.mul (at_theta c M) (at_theta c N)
    pub quotient : Plane K
    pub quotients : (i : ℕ) → (s : Poly K.ring) × IsDivision K.ring
        (coeff (polynomials K.ring) square.coeffs i) o.modulus
        (coeff (polynomials K.ring) quotient.coeffs i) s
    pub nums : Plane K
    pub residue : IsResidue c (pole_modulus c o a 1) (at_theta c quotient) nums
    pub near : (d : ℕ → K.carrier) → IsNear q w r v (flat K.ring ld nums) d
        → IsNear q w r v (flat K.ring ld nums) e

  module _ (q : ℕ) (w : ℕ → ℕ → K.carrier)
      (exact : (N : Plane K) → HasShape K.ring c.degree
      (pred (size K.ring (pole_modulus c o a 1))) N → InSpan K.ring q w
      (flat K.ring (pred (size K.ring (pole_modulus c o a 1))) N) ↔ IsRootMultiple c o a N)
      (r : ℕ) (v : ℕ → ℕ → K.carrier) (G : ℕ → Plane K)
      (numerator : (i : ℕ) → i < r → IsNumerator c o a (G i))
      (vector : (i : ℕ) → i < r → (j : ℕ)
      → flat K.ring (pred (size K.ring (pole_modulus c o a 1))) (G i) j ≡ v i j)
      (independent : (e : ℕ → K.carrier) → InSpan K.ring q w (combination K.ring r e v) → (i : ℕ)
      → i < r → e i ≡ K.zero)
      (powers : (i : ℕ) → i < c.degree → (e : ℕ → K.carrier) × IsNear q w r v
      (flat K.ring (pred (size K.ring (pole_modulus c o a 1)))
      (monomial (polynomials K.ring) o.modulus i)) e)
      (basis : (i : ℕ) → i < o.space.count → (e : ℕ → K.carrier) × IsNear q w r v
      (flat K.ring (pred (size K.ring (pole_modulus c o a 1))) (o.space.basis i)) e)
      (more : pred (size K.ring o.modulus) ≤ pred (size K.ring (pole_modulus c o a 1)))
      (room : size K.ring o.modulus ≤ pred (size K.ring (pole_modulus c o a 1))) where
    pub shape : (i : ℕ) → i < r → HasShape K.ring c.degree ld (G i)
    shape i s = (numerator i s).shape

    abbrev near_into : (e : ℕ → K.carrier) (N : Plane K) → HasShape K.ring c.degree ld N
        → IsNear q w r v (flat K.ring ld N) e → IsCongruentTo c o a r G e N
    near_into = combination_into K c.degree ld q w (IsRootMultiple c o a) exact r v G shape vector

    pub of_theta : (i : ℕ) → i < c.degree → (N : Plane K) × (IsThetaPower c o a i N
        × ((e : ℕ → K.carrier) × IsCongruentTo c o a r G e N))
    of_theta i s = (
      monomial (polynomials K.ring) o.modulus i,
      (
        monomial_theta K A AL c l o.modulus i,
        (
          (powers i s).0,
          near_into (powers i s).0 (monomial (polynomials K.ring) o.modulus i)
              (monomial_shape K c.degree ld i o.modulus s room) (powers i s).1,
        ),
      ),
    )

    pub of_basis : (i : ℕ) → i < o.space.count
        → (e : ℕ → K.carrier) × IsCongruentTo c o a r G e (o.space.basis i)
    of_basis i s = (
      (basis i s).0,
      near_into (basis i s).0 (o.space.basis i)
          (shape_less K A AL c l c.degree (pred (size K.ring o.modulus)) ld more (o.space.basis i)
          (o.space.shape i s)) (basis i s).1,
    )

    pub spans : (N : Plane K) → IsNumerator c o a N
        → (e : ℕ → K.carrier) × IsNear q w r v (flat K.ring ld N) e
    spans N h = go (numerator_spans K A AL c l o a modulus r G numerator of_theta of_basis N h)
      where
        go : (e : ℕ → K.carrier) × IsCongruentTo c o a r G e N
            → (e : ℕ → K.carrier) × IsNear q w r v (flat K.ring ld N) e
        go t = (
          t.0,
          combination_back K c.degree ld q w (IsRootMultiple c o a) exact r v G shape vector t.0 N
              h.shape t.1,
        )

    -- an entry of the table
    pub entry : (i j : ℕ) → i < r → j < r → (e : ℕ → K.carrier) → IsEntry q w r v (G i) (G j) e
        → IsProductEntry c o a r G (G i) (G j) e
    entry i j s t e h = record {
      quotient = h.quotient;
      product = product_is K A AL c l o a modulus (G i) (G j) h.square (numerator i s)
          (numerator j t) h.few h.square_is h.quotient h.nums whole h.residue;
      nums = h.nums;
      residue = h.residue;
      congruent = near_into e h.nums h.residue.shape (h.near near.0 near.1);
    }
      where
        exact_quotient : (Q : Plane K) × (h.square ≡ (planes K).mul (row_of K.ring o.modulus) Q)
        exact_quotient = product_quotient K A AL c l o a modulus (G i) (G j) h.square
            (numerator i s) (numerator j t) h.few h.square_is

        short : (i : ℕ) → size K.ring (coeff (polynomials K.ring) (planes K).zero.coeffs i)
            < size K.ring o.modulus
        short i = let z : size K.ring (coeff (polynomials K.ring) (planes K).zero.coeffs i) ≡ 0
            = ap (size K.ring) (none i) ∙ zero_size K in
            let p = nonzero_size K o.modulus modulus_nonzero in
            omega (arith, z, p.1)
          where
            none : (i : ℕ) → coeff (polynomials K.ring) (planes K).zero.coeffs i ≡ D.zero
            none i = polynomial_past (polynomials K.ring) D.laws D.tests 0 (λ i. D.zero) i
                (omega arith)

        same : h.quotient ≡ exact_quotient.0
        same = quotient_is K o.modulus modulus_nonzero h.square h.quotient (planes K).zero
            exact_quotient.0 (exact_quotient.1 ∙ ring1 (planes K) PL (λ n. n) (λ n. nil ⊕ n) refl
            ((planes K).mul (row_of K.ring o.modulus) exact_quotient.0)) short h.quotients

        whole : h.square ≡ (planes K).mul (row_of K.ring o.modulus) h.quotient
        whole = exact_quotient.1 ∙ ap ((planes K).mul (row_of K.ring o.modulus)) (sym same)

        near : (d : ℕ → K.carrier) × IsNear q w r v (flat K.ring ld h.nums) d
        near = spans h.nums (residue_numerator K A AL c l o a modulus (G i) (G j) h.square
            (numerator i s) (numerator j t) h.few h.square_is h.quotient h.nums whole h.residue)

    module _ (table : ℕ → ℕ → ℕ → K.carrier)
        (products : (i j : ℕ) → i < r → j < r → IsEntry q w r v (G i) (G j) (table i j)) where
      abbrev pub chart_fibre : ChartFibre c o a
      chart_fibre = record {
        count = r;
        plane = G;
        numerator = numerator;
        independent = λ e h. independent e (sum_back K c.degree ld q w (IsRootMultiple c o a) exact
            r v G shape vector e h);
        of_theta = of_theta;
        of_basis = of_basis;
        table = table;
        products = λ i j s t. entry i j s t (table i j) (products i j s t);
      }

    -- an element of the order, by a residue of its numerator
    module _ (x : C) (inside : InChartOrder c o x) (N R : Plane K)
        (over_is : at_theta c N ≡ A.mul (at_u c o.modulus) x)
        (residue : IsResidue c (pole_modulus c o a 1) (at_theta c N) R) where
      over_residue : over R ≡ x + minus (at_u c (root_at K.ring a) * residue.rest)
      over_residue = cancel_u K A AL c l o.modulus modulus_nonzero _ _
          (times_over K A AL c l o.modulus modulus_nonzero R
          ∙ ring2 A AL (λ r s. r) (λ r s. (r ⊕ s) ⊕ neg s) refl (at_theta c R)
          (at_u c (pole_modulus c o a 1) * residue.rest)
          ∙ ap₂ (λ x y. x + minus (y * residue.rest)) (sym residue.sum ∙ over_is)
          (ap (at_u c) (first_modulus K A AL c l o a modulus)
          ∙ (at_u_map K A AL c l).on_mul (root_at K.ring a) o.modulus)
          ∙ ring4 A AL (λ d q v r. d ⊗ q ⊕ neg (v ⊗ d ⊗ r)) (λ d q v r. d ⊗ (q ⊕ neg (v ⊗ r))) refl
          (at_u c o.modulus) x (at_u c (root_at K.ring a)) residue.rest)

      -- the residue is a numerator
      pub residue_is_numerator : IsNumerator c o a R
      residue_is_numerator = element_numerator K A AL c l o a modulus R residue.shape
          (subst (InChartOrder c o) (sym over_residue) (O.in_add _ _ inside
          (in_neg O _ (powers_in K A AL c l o a modulus _ (powers_mul K A AL c l _ _
          (powers_u K A AL c l (root_at K.ring a)) residue.in_powers)))))

      -- and its coordinates are those of the element
      pub element_spanned : (e : ℕ → K.carrier) → IsNear q w r v (flat K.ring ld R) e
          → (h : IsSpanned O r (λ i. over (G i)) x) × ((i : ℕ) → h.coefficients i ≡ e i)
      element_spanned e near = (
        record {
          coefficients = e;
          rest = over h.part + residue.rest;
          inside = O.in_add _ _ (in_over K A AL c l o h.part h.shape h.is_in)
              (powers_in K A AL c l o a modulus _ residue.in_powers);
          sum = ring2 A AL (λ x y. x) (λ x y. (x ⊕ neg y) ⊕ y) refl x
              (at_u c (root_at K.ring a) * residue.rest)
              ∙ ap (λ t. t + at_u c (root_at K.ring a) * residue.rest) (sym over_residue ∙ parts)
              ∙ ring4 A AL (λ s v y z. (s ⊕ v ⊗ y) ⊕ v ⊗ z) (λ s v y z. s ⊕ v ⊗ (y ⊕ z)) refl
              (combined O r e (λ i. over (G i))) (at_u c (root_at K.ring a)) (over h.part)
              residue.rest;
        },
        λ i. refl,
      )
        where
          h : IsCongruentTo c o a r G e R
          h = near_into e R residue.shape near

          over_part : over ((planes K).add R ((planes K).neg (plane_sum K.ring r e G)))
              ≡ at_u c (root_at K.ring a) * over h.part
          over_part = ap over h.product ∙ ap (λ t. l.inverse o.modulus * t)
              (row_times K A AL c l (root_at K.ring a) h.part)
              ∙ ring3 A AL (λ i r n. i ⊗ (r ⊗ n)) (λ i r n. r ⊗ (i ⊗ n)) refl (l.inverse o.modulus)
              (at_u c (root_at K.ring a)) (at_theta c h.part)

          parts : over R ≡ combined O r e (λ i. over (G i))
              + at_u c (root_at K.ring a) * over h.part
          parts = ap over (ring2 (planes K) PL (λ n s. n) (λ n s. s ⊕ (n ⊕ neg s)) refl R
              (plane_sum K.ring r e G))
              ∙ ap (λ t. l.inverse o.modulus * t) (V.on_add _ _)
              ∙ ring3 A AL (λ i s t. i ⊗ (s ⊕ t)) (λ i s t. i ⊗ s ⊕ i ⊗ t) refl
              (l.inverse o.modulus)
              (at_theta c (plane_sum K.ring r e G)) (at_theta c ((planes K).add R
              ((planes K).neg (plane_sum K.ring r e G))))
              ∙ ap₂ A.add (sum_at_theta K A AL c l (l.inverse o.modulus) r e G) over_part
