-- The powers of theta and the elements of the basis span an order of a chart modulo v*O.
use Rattle.std.proofs.Common.{◌≡◌, ℕ, zero, suc, pred, ◌+◌ as plus_ℕ, ◌-◌, ◌<◌, ◌≤◌, ◌⊎◌, inl, inr}
use Rattle.std.proofs.Common.{[], ◌∷◌, refl, sym, ◌∙◌, ap, ap₂, arith}
use Rattle.std.proofs.lemmas.Bool.{cases_lt}
use Rattle.ff_theory.specs.Ring.{RingOps, IsCommRing, power}
use Rattle.ff_theory.specs.Lawful.{Domain, Field}
use Rattle.ff_theory.specs.Map.{IsMap}
use Rattle.ff_theory.specs.Sum.{sum_below}
use Rattle.ff_theory.specs.Poly.{coeff, Poly, poly, polynomials}
use Rattle.ff_theory.specs.Division.{size}
use Rattle.ff_theory.specs.Planes.{planes, Plane}
use Rattle.ff_theory.proofs.Solver.{◌⊕◌, ◌⊗◌, nil, unit, ring1, ring4, mul_zero}
use Rattle.ff_theory.proofs.Sums.{sum-ext}
use Rattle.ff_theory.proofs.Division.{x}
use Rattle.ff_theory.proofs.Evaluate.{eval-const}
use Rattle.ff_theory.proofs.PolyMap.{polynomial_domain}
use Rattle.ff_charts.specs.Chart.{Chart, at_u, at_theta, InPowers, IsChart}
use Rattle.ff_charts.specs.Lattice.{HasShape, IsResidue}
use Rattle.ff_charts.proofs.Rows.{value_sum, poly_size}
use Rattle.ff_charts.proofs.InvertedChart.{at_x}
use Rattle.ff_charts.proofs.Chart.{at_u_map, at_theta_map, at_row, powers_plane, powers_power}
use Rattle.ff_charts.proofs.Chart.{powers_at, powers_zero}
use Rattle.ff_charts.proofs.Lattice.{residue, lat_parts, lat_element}
use Rattle.ff_charts.proofs.Closure.{lat_powers_in, lat_at}
use Rattle.ff_local.specs.Point.{OrderIn, IsSpanned, Spanning, combined}
use Rattle.ff_local.specs.ChartOrder.{ChartOrder, InChartOrder, plane_sum, root_at}
use Rattle.ff_local.proofs.Combined.{combined_joined}
use Rattle.ff_local.proofs.Joined.{joined, joined_by}
use Rattle.ff_local.proofs.ChartOrder.{order_in}

module _ (K : Field) (A : RingOps) (AL : IsCommRing A) (c : Chart K.ring A) (l : IsChart K.ring A c)
  where
    infixl 60 ◌+◌
    infixl 70 ◌*◌
    open A use {add as ◌+◌, mul as ◌*◌, neg as minus, carrier as C}

    abbrev D : Domain
    D = polynomial_domain K

    U : IsMap (polynomials K.ring) A (at_u c)
    U = at_u_map K A AL c l

    V : IsMap (planes K) A (at_theta c)
    V = at_theta_map K A AL c l

    pub powers_theta : InPowers c c.theta
    powers_theta = powers_at K A AL c l theta_is
        (powers_plane K A AL c l (x (polynomials K.ring) D.laws D.tests))
      where
        theta_is : at_theta c (x (polynomials K.ring) D.laws D.tests) ≡ c.theta
        theta_is = at_x (polynomials K.ring) D.laws D.tests A AL (at_u c) U c.theta

    -- a combination of planes at u and theta, times t
    pub sum_at_theta : (t : A.carrier) (r : ℕ) (e : ℕ → K.carrier) (N : ℕ → Plane K)
        → A.mul t (at_theta c (plane_sum K.ring r e N))
        ≡ sum_below A r (λ i. A.mul (c.constant (e i)) (A.mul t (at_theta c (N i))))
    sum_at_theta t zero e N = ap (λ z. t * z) V.on_zero ∙ mul_zero A AL t
    sum_at_theta t (suc r) e N = ap (λ z. t * z) (V.on_add (plane_sum K.ring r e N) _
        ∙ ap (λ z. at_theta c (plane_sum K.ring r e N) + z) (V.on_mul _ (N r)
        ∙ ap (λ z. z * at_theta c (N r)) (at_row K A AL c l (poly K.ring (e r ∷ []))
        ∙ eval-const K.ring A K.laws K.tests AL c.constant l.constants c.u (e r))))
        ∙ ring4 A AL (λ t s a n. t ⊗ (s ⊕ a ⊗ n)) (λ t s a n. t ⊗ s ⊕ a ⊗ (t ⊗ n)) refl t
        (at_theta c (plane_sum K.ring r e N)) (c.constant (e r)) (at_theta c (N r))
        ∙ ap (λ z. z + c.constant (e r) * (t * at_theta c (N r))) (sum_at_theta t r e N)

    -- a plane whose rows are constants
    pub constant_rows : (n : ℕ) (N : Plane K) → HasShape K.ring n 1 N → at_theta c N
        ≡ sum_below A n (λ i. A.mul
        (c.constant (coeff K.ring (coeff (polynomials K.ring) N.coeffs i).coeffs 0))
        (power A c.theta i))
    constant_rows n N shape = value_sum (polynomials K.ring) D.laws D.tests A AL (at_u c) U.on_zero
        c.theta N n shape.rows
        ∙ sum-ext A AL n _ _ (λ i q. ap (λ t. t * power A c.theta i) (row i))
      where
        row : (i : ℕ) → at_u c (coeff (polynomials K.ring) N.coeffs i)
            ≡ c.constant (coeff K.ring (coeff (polynomials K.ring) N.coeffs i).coeffs 0)
        row i = value_sum K.ring K.laws K.tests A AL c.constant l.constants.on_zero c.u
            (coeff (polynomials K.ring) N.coeffs i) 1 (shape.each i)
            ∙ ring1 A AL (λ a. nil ⊕ a ⊗ unit) (λ a. a) refl
            (c.constant (coeff K.ring (coeff (polynomials K.ring) N.coeffs i).coeffs 0))

    pub shape_less : (n k j : ℕ) → k ≤ j → (N : Plane K) → HasShape K.ring n k N
        → HasShape K.ring n j N
    shape_less n k j q N s = record {
      rows = s.rows;
      each = λ i. let e : size K.ring (coeff (polynomials K.ring) N.coeffs i) ≤ k = s.each i in
          omega (arith, e, q);
    }

    module _ (o : ChartOrder c) where
      -- the element that a residue stands for
      abbrev pub over_modulus : Plane K → A.carrier
      over_modulus N = A.mul (l.inverse o.modulus) (at_theta c N)

      pub in_over : (N : Plane K) → HasShape K.ring c.degree (pred (size K.ring o.modulus)) N
          → o.space.In N → InChartOrder c o (over_modulus N)
      in_over N s h = lat_at K A AL c l o.modulus o.is_modulus o.space.In o.space.linear
          (AL.add_zero _) (lat_element K A AL c l o.modulus o.is_modulus o.space.In N s h A.zero
          (powers_zero K A AL c l))

      module _ (a : K.carrier) (modulus : c.IsModulus (root_at K.ring a)) where
        abbrev P : OrderIn
        P = order_in K A AL c l o a modulus

        abbrev pub spanning_element : ℕ → A.carrier
        spanning_element = joined c.degree (λ i. power A c.theta i)
            (λ i. over_modulus (o.space.basis i))

        spanning_in : (i : ℕ) → i < plus_ℕ c.degree o.space.count
            → InChartOrder c o (spanning_element i)
        spanning_in i q = go (cases_lt i c.degree)
          where
            go : (b : (i < c.degree) ⊎ (c.degree ≤ i)) → InChartOrder c o (joined_by c.degree
                (λ i. power A c.theta i) (λ i. over_modulus (o.space.basis i)) i b)
            go (inl s) = lat_powers_in K A AL c l o.modulus o.is_modulus o.space.In o.space.linear _
                (powers_power K A AL c l c.theta powers_theta i)
            go (inr s) = in_over _ (o.space.shape (i - c.degree) (omega arith))
                (o.space.is_in (i - c.degree) (omega arith))

        pub spanning_spans : (w : A.carrier) → InChartOrder c o w
            → IsSpanned P (plus_ℕ c.degree o.space.count) spanning_element w
        spanning_spans w h = whole (o.space.spans h.nums h.residue.shape h.is_in)
            (residue K A AL c l (root_at K.ring a) modulus h.residue.rest h.residue.in_powers)
          where
            R : Poly K.ring
            R = root_at K.ring a

            short : pred (size K.ring R) ≤ 1
            short = let s : size K.ring R ≤ 2 = poly_size K.ring K.laws K.tests
                (K.neg a ∷ K.one ∷ []) in omega (arith, s)

            whole : (e : ℕ → K.carrier) × (h.nums ≡ plane_sum K.ring o.space.count e o.space.basis)
                → (N : Plane K) × IsResidue c R h.residue.rest N
                → IsSpanned P (plus_ℕ c.degree o.space.count) spanning_element w
            whole e n = record {
              coefficients = joined c.degree d e.0;
              rest = n.1.rest;
              inside = lat_powers_in K A AL c l o.modulus o.is_modulus o.space.In o.space.linear _
                  n.1.in_powers;
              sum = lat_parts K A AL c l o.modulus o.is_modulus o.space.In w h
                  ∙ ap₂ A.add (ap over_modulus e.1
                  ∙ sum_at_theta (l.inverse o.modulus) o.space.count e.0 o.space.basis)
                  (n.1.sum ∙ ap (λ t. t + at_u c R * n.1.rest)
                  (constant_rows c.degree n.0 (shape_less c.degree _ 1 short n.0 n.1.shape)))
                  ∙ ring4 A AL (λ b a v y. b ⊕ (a ⊕ v ⊗ y)) (λ b a v y. (a ⊕ b) ⊕ v ⊗ y) refl
                  (combined P o.space.count e.0 (λ i. over_modulus (o.space.basis i)))
                  (combined P c.degree d (λ i. power A c.theta i)) (at_u c R) n.1.rest
                  ∙ ap (λ t. t + at_u c R * n.1.rest) (sym
                  (combined_joined P c.degree o.space.count d
                  e.0 (λ i. power A c.theta i) (λ i. over_modulus (o.space.basis i))));
            }
              where
                d : ℕ → K.carrier
                d i = coeff K.ring (coeff (polynomials K.ring) n.0.coeffs i).coeffs 0

        pub spanning : Spanning (order_in K A AL c l o a modulus)
        spanning = record {
          count = plus_ℕ c.degree o.space.count;
          element = spanning_element;
          inside = spanning_in;
          spans = spanning_spans;
        }
