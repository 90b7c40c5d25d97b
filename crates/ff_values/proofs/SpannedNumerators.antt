-- Numerators that span the powers of theta and the basis of the space modulo those of v*O span all
-- numerators of the order.
use Rattle.std.proofs.Common.{◌≡◌, ℕ, pred, ◌+◌ as plus_ℕ, ◌-◌, ◌<◌, ◌≤◌, ◌⊎◌, inl, inr, false}
use Rattle.std.proofs.Common.{refl, sym, ◌∙◌, ap, ap₂, subst, arith}
use Rattle.std.proofs.lemmas.Bool.{cases_lt}
use Rattle.ff_theory.specs.Ring.{RingOps, IsCommRing, power}
use Rattle.ff_theory.specs.Lawful.{Domain, Field}
use Rattle.ff_theory.specs.Map.{IsMap}
use Rattle.ff_theory.specs.Poly.{Poly, polynomials}
use Rattle.ff_theory.specs.Division.{size}
use Rattle.ff_theory.specs.Planes.{planes, Plane}
use Rattle.ff_theory.proofs.Solver.{◌⊕◌, ◌⊗◌, neg, nil, ring2, ring3, ring4}
use Rattle.ff_theory.proofs.Poly.{polynomial_laws}
use Rattle.ff_theory.proofs.PolyMap.{polynomial_domain}
use Rattle.ff_charts.specs.Chart.{Chart, at_u, at_theta, IsChart}
use Rattle.ff_charts.specs.Lattice.{HasShape, IsResidue, InLattice}
use Rattle.ff_charts.proofs.Chart.{at_theta_map, row_times, cancel_u, powers_zero}
use Rattle.ff_charts.proofs.Lattice.{residue_one, rescale_into, shape_minus}
use Rattle.ff_local.specs.Point.{OrderIn, IsMultiple, IsSpanned, combined}
use Rattle.ff_local.specs.ChartOrder.{ChartOrder, InChartOrder, root_at, plane_sum}
use Rattle.ff_local.specs.ChartPole.{pole_modulus}
use Rattle.ff_local.specs.ChartFibre.{IsRootMultiple, IsNumerator, IsCongruentTo, IsThetaPower}
use Rattle.ff_local.proofs.Orders.{v_multiple}
use Rattle.ff_local.proofs.Joined.{joined_by}
use Rattle.ff_local.proofs.Spanned.{spanned}
use Rattle.ff_local.proofs.PlaneSums.{sum_has_shape}
use Rattle.ff_local.proofs.ChartOrder.{order_in}
use Rattle.ff_local.proofs.ChartSpanning.{spanning_spans, spanning_element, sum_at_theta, in_over}
use Rattle.ff_local.proofs.Quotients.{times_over, first_over, pole_nonzero}

module _ (K : Field) (A : RingOps) (AL : IsCommRing A) (c : Chart K.ring A) (l : IsChart K.ring A c)
    (o : ChartOrder c) (a : K.carrier) (modulus : c.IsModulus (root_at K.ring a)) where
  infixl 60 ◌+◌
  infixl 70 ◌*◌
  open A use {add as ◌+◌, mul as ◌*◌, neg as minus, carrier as C}

  abbrev D : Domain
  D = polynomial_domain K

  PL : IsCommRing (planes K)
  PL = polynomial_laws D.ring D.laws D.tests

  abbrev P : OrderIn
  P = order_in K A AL c l o a modulus

  abbrev root : Poly K.ring
  root = root_at K.ring a

  abbrev M1 : Poly K.ring
  M1 = pole_modulus c o a 1

  V : IsMap (planes K) A (at_theta c)
  V = at_theta_map K A AL c l

  abbrev over : Plane K → C
  over N = l.inverse o.modulus * at_theta c N

  modulus_nonzero : D.same o.modulus D.zero ≡ false
  modulus_nonzero = l.modulus_nonzero o.modulus o.is_modulus

  -- the modulus d*(u-a)
  pub first_modulus : pole_modulus c o a 1 ≡ (polynomials K.ring).mul (root_at K.ring a) o.modulus
  first_modulus = ap (λ t. D.mul t o.modulus) (D.laws.mul_one root)

  over_root : (N : Plane K) (h : IsRootMultiple c o a N) → over N ≡ at_u c root * over h.part
  over_root N h = ap over h.product ∙ ap (λ t. l.inverse o.modulus * t)
      (row_times K A AL c l root h.part)
      ∙ ring3 A AL (λ i r n. i ⊗ (r ⊗ n)) (λ i r n. r ⊗ (i ⊗ n)) refl (l.inverse o.modulus)
      (at_u c root) (at_theta c h.part)

  part_in : (N : Plane K) (h : IsRootMultiple c o a N) → InChartOrder c o (over h.part)
  part_in N h = in_over K A AL c l o h.part h.shape h.is_in

  -- a plane over d that is in v*O is a multiple of u - a
  pub multiple_numerator : (N : Plane K)
      → HasShape K.ring c.degree (pred (size K.ring (pole_modulus c o a 1))) N
      → IsMultiple (order_in K A AL c l o a modulus) (A.mul (l.inverse o.modulus) (at_theta c N))
      → IsRootMultiple c o a N
  multiple_numerator N shape h = subst (IsRootMultiple c o a)
      (residue_one K A AL c l (D.mul root o.modulus)
      (l.modulus_product root o.modulus modulus o.is_modulus)
      (at_u c (D.mul root o.modulus) * w) q.nums N q.residue own) q.is_in
    where
      w : C
      w = l.inverse M1 * at_theta c N

      q : InLattice c (D.mul root o.modulus) (IsRootMultiple c o a) w
      q = rescale_into K A AL c l o.modulus o.is_modulus root modulus o.space.In w
          (subst (InChartOrder c o) (first_over K A AL c l o a modulus N) h)

      own : IsResidue c (D.mul root o.modulus) (at_u c (D.mul root o.modulus) * w) N
      own = record {
        shape = subst (λ m. HasShape K.ring c.degree (pred (size K.ring m)) N) first_modulus shape;
        rest = A.zero;
        in_powers = powers_zero K A AL c l;
        sum = ap (λ m. at_u c m * w) (sym first_modulus)
            ∙ times_over K A AL c l M1 (pole_nonzero K A AL c l o a modulus 1) N
            ∙ ring2 A AL (λ n m. n) (λ n m. n ⊕ m ⊗ nil) refl (at_theta c N)
            (at_u c (D.mul root o.modulus));
      }

  -- an element of the order with a numerator of the shape
  pub element_numerator : (N : Plane K)
      → HasShape K.ring c.degree (pred (size K.ring (pole_modulus c o a 1))) N
      → InChartOrder c o (A.mul (l.inverse o.modulus) (at_theta c N)) → IsNumerator c o a N
  element_numerator N shape h = record {
    shape = shape;
    nums = h.nums;
    is_in = h.is_in;
    residue = record {
      shape = h.residue.shape;
      rest = h.residue.rest;
      in_powers = h.residue.in_powers;
      sum = sym (times_over K A AL c l o.modulus modulus_nonzero N) ∙ h.residue.sum;
    };
  }

  pub numerator_in : (N : Plane K) → IsNumerator c o a N
      → InChartOrder c o (A.mul (l.inverse o.modulus) (at_theta c N))
  numerator_in N h = record {
    nums = h.nums;
    is_in = h.is_in;
    residue = record {
      shape = h.residue.shape;
      rest = h.residue.rest;
      in_powers = h.residue.in_powers;
      sum = times_over K A AL c l o.modulus modulus_nonzero N ∙ h.residue.sum;
    };
  }

  module _ (count : ℕ) (G : ℕ → Plane K) (numerator : (i : ℕ) → i < count → IsNumerator c o a (G i))
      (of_theta : (i : ℕ) → i < c.degree → (N : Plane K) × (IsThetaPower c o a i N
      × ((e : ℕ → K.carrier) × IsCongruentTo c o a count G e N)))
      (of_basis : (i : ℕ) → i < o.space.count
      → (e : ℕ → K.carrier) × IsCongruentTo c o a count G e (o.space.basis i)) where
    abbrev element : ℕ → C
    element i = over (G i)

    congruent_sum : (e : ℕ → K.carrier) (N : Plane K) (h : IsCongruentTo c o a count G e N)
        → over N ≡ combined P count e element + at_u c root * over h.part
    congruent_sum e N h = ap over (ring2 (planes K) PL (λ n s. n) (λ n s. s ⊕ (n ⊕ neg s)) refl N
        (plane_sum K.ring count e G))
        ∙ ap (λ t. l.inverse o.modulus * t) (V.on_add _ _)
        ∙ ring3 A AL (λ i s t. i ⊗ (s ⊕ t)) (λ i s t. i ⊗ s ⊕ i ⊗ t) refl (l.inverse o.modulus)
        (at_theta c (plane_sum K.ring count e G)) (at_theta c ((planes K).add N
        ((planes K).neg (plane_sum K.ring count e G))))
        ∙ ap₂ A.add (sum_at_theta K A AL c l (l.inverse o.modulus) count e G) (over_root _ h)

    first_spanned : (i : ℕ) → i < plus_ℕ c.degree o.space.count
        → IsSpanned P count element (spanning_element K A AL c l o a modulus i)
    first_spanned i q = go (cases_lt i c.degree)
      where
        go : (b : (i < c.degree) ⊎ (c.degree ≤ i)) → IsSpanned P count element
            (joined_by c.degree (λ i. power A c.theta i) (λ i. over (o.space.basis i)) i b)
        go (inl s) = record {
          coefficients = t.1.1.0;
          rest = over t.1.1.1.part;
          inside = part_in _ t.1.1.1;
          sum = cancel_u K A AL c l o.modulus modulus_nonzero _ _ (sym t.1.0
              ∙ sym (times_over K A AL c l o.modulus modulus_nonzero t.0)
              ∙ ap (λ z. at_u c o.modulus * z) (congruent_sum t.1.1.0 t.0 t.1.1.1));
        }
          where
            t : (N : Plane K) × ((at_theta c N ≡ at_u c o.modulus * power A c.theta i)
                × ((e : ℕ → K.carrier) × IsCongruentTo c o a count G e N))
            t = of_theta i s
        go (inr s) = record {
          coefficients = t.0;
          rest = over t.1.part;
          inside = part_in _ t.1;
          sum = congruent_sum t.0 (o.space.basis (i - c.degree)) t.1;
        }
          where
            t : (e : ℕ → K.carrier) × IsCongruentTo c o a count G e (o.space.basis (i - c.degree))
            t = of_basis (i - c.degree) (omega (arith, q, s))

    -- each numerator is a combination up to one of v*O
    pub numerator_spans : (N : Plane K) → IsNumerator c o a N
        → (e : ℕ → K.carrier) × IsCongruentTo c o a count G e N
    numerator_spans N h = (
      s.coefficients,
      multiple_numerator _ shape
          (subst (IsMultiple P) (sym difference) (v_multiple P s.rest s.inside)),
    )
      where
        s : IsSpanned P count element (over N)
        s = spanned P (plus_ℕ c.degree o.space.count) count
            (spanning_element K A AL c l o a modulus) element first_spanned (over N)
            (spanning_spans K A AL c l o a modulus (over N) (numerator_in N h))

        shape : HasShape K.ring c.degree (pred (size K.ring M1))
            ((planes K).add N ((planes K).neg (plane_sum K.ring count s.coefficients G)))
        shape = shape_minus K c.degree (pred (size K.ring M1)) N
            (plane_sum K.ring count s.coefficients G) h.shape
            (sum_has_shape K c.degree (pred (size K.ring M1)) count s.coefficients G
            (λ i q. (numerator i q).shape))

        difference : over ((planes K).add N
            ((planes K).neg (plane_sum K.ring count s.coefficients G))) ≡ at_u c root * s.rest
        difference = ap (λ t. l.inverse o.modulus * t) (V.on_add N _
            ∙ ap (λ t. at_theta c N + t) (V.on_neg (plane_sum K.ring count s.coefficients G)))
            ∙ ring3 A AL (λ i n s. i ⊗ (n ⊕ neg s)) (λ i n s. i ⊗ n ⊕ neg (i ⊗ s)) refl
            (l.inverse o.modulus) (at_theta c N)
            (at_theta c (plane_sum K.ring count s.coefficients G))
            ∙ ap₂ (λ x y. x + minus y) s.sum
            (sum_at_theta K A AL c l (l.inverse o.modulus) count s.coefficients G)
            ∙ ring3 A AL (λ s v y. (s ⊕ v ⊗ y) ⊕ neg s) (λ s v y. v ⊗ y) refl
            (combined P count s.coefficients element) (at_u c root) s.rest
