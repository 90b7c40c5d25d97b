-- A basis of an order of a chart modulo u - a by numerators is one modulo v*O, with its table.
use Rattle.std.proofs.Common.{◌≡◌, ℕ, pred, ◌+◌ as plus_ℕ, ◌-◌, ◌<◌, ◌≤◌, ◌⊎◌, inl, inr}
use Rattle.std.proofs.Common.{false, refl, sym, ◌∙◌, ap, ap₂, subst, arith}
use Rattle.std.proofs.lemmas.Bool.{cases_lt}
use Rattle.ff_theory.specs.Ring.{RingOps, IsCommRing, power}
use Rattle.ff_theory.specs.Lawful.{Domain, Field}
use Rattle.ff_theory.specs.Map.{IsMap}
use Rattle.ff_theory.specs.Poly.{Poly}
use Rattle.ff_theory.specs.Division.{size}
use Rattle.ff_theory.specs.Planes.{planes, Plane}
use Rattle.ff_theory.proofs.Solver.{◌⊕◌, ◌⊗◌, neg, nil, ring2, ring3, ring4}
use Rattle.ff_theory.proofs.Poly.{polynomial_laws}
use Rattle.ff_theory.proofs.PolyMap.{polynomial_domain}
use Rattle.ff_charts.specs.Chart.{Chart, at_u, at_theta, IsChart}
use Rattle.ff_charts.specs.Lattice.{HasShape, IsResidue, InLattice}
use Rattle.ff_charts.proofs.Chart.{at_u_map, at_theta_map, row_times, cancel_u, powers_zero}
use Rattle.ff_charts.proofs.Lattice.{residue_one, rescale_into}
use Rattle.ff_charts.proofs.Closure.{lat_powers_in}
use Rattle.ff_local.specs.Point.{OrderIn, IsMultiple, IsSpanned, Spanning, combined}
use Rattle.ff_local.specs.Socle.{IsSocle}
use Rattle.ff_local.specs.Fibre.{Fibre, IsSocleVector}
use Rattle.ff_local.specs.ChartOrder.{ChartOrder, ChartPoint, InChartOrder, root_at, plane_sum}
use Rattle.ff_local.specs.ChartPole.{pole_modulus}
use Rattle.ff_local.specs.ChartFibre.{ChartFibre, IsRootMultiple, IsNumerator, IsCongruentTo}
use Rattle.ff_local.specs.ChartFibre.{IsProductEntry}
use Rattle.ff_local.proofs.Orders.{v_multiple}
use Rattle.ff_local.proofs.Joined.{joined_by}
use Rattle.ff_theory.proofs.Dependence.{Found}
use Rattle.ff_local.proofs.SocleVector.{socle_computed, socle_vector}
use Rattle.ff_local.proofs.Spanned.{spanned}
use Rattle.ff_local.proofs.PlaneSums.{sum_has_shape}
use Rattle.ff_local.proofs.ChartOrder.{order_in}
use Rattle.ff_local.proofs.ChartPoint.{order_at}
use Rattle.ff_local.proofs.ChartSpanning.{spanning_spans, spanning_element, sum_at_theta, in_over}
use Rattle.ff_local.proofs.ChartSpanning.{over_modulus}
use Rattle.ff_local.proofs.Quotients.{times_over, first_over, pole_nonzero}

module _ (K : Field) (A : RingOps) (AL : IsCommRing A) (c : Chart K.ring A) (l : IsChart K.ring A c)
    (o : ChartOrder c) (a : K.carrier) (modulus : c.IsModulus (root_at K.ring a)) where
  infixl 60 ◌+◌
  infixl 70 ◌*◌
  open A use {add as ◌+◌, mul as ◌*◌, neg as minus, carrier as C}

  abbrev D : Domain
  D = polynomial_domain K

  PL : IsCommRing (planes K)
  PL = polynomial_laws D.ring D.laws D.tests

  abbrev P : OrderIn
  P = order_in K A AL c l o a modulus

  abbrev root : Poly K.ring
  root = root_at K.ring a

  abbrev M1 : Poly K.ring
  M1 = pole_modulus c o a 1

  V : IsMap (planes K) A (at_theta c)
  V = at_theta_map K A AL c l

  abbrev over : Plane K → C
  over N = l.inverse o.modulus * at_theta c N

  modulus_nonzero : D.same o.modulus D.zero ≡ false
  modulus_nonzero = l.modulus_nonzero o.modulus o.is_modulus

  -- the modulus d*(u-a)
  first_modulus : M1 ≡ D.mul root o.modulus
  first_modulus = ap (λ t. D.mul t o.modulus) (D.laws.mul_one root)

  -- what stands for a multiple of u - a
  over_root : (N : Plane K) (h : IsRootMultiple c o a N) → over N ≡ at_u c root * over h.part
  over_root N h = ap over h.product ∙ ap (λ t. l.inverse o.modulus * t)
      (row_times K A AL c l root h.part)
      ∙ ring3 A AL (λ i r n. i ⊗ (r ⊗ n)) (λ i r n. r ⊗ (i ⊗ n)) refl (l.inverse o.modulus)
      (at_u c root) (at_theta c h.part)

  part_in : (N : Plane K) (h : IsRootMultiple c o a N) → InChartOrder c o (over h.part)
  part_in N h = in_over K A AL c l o h.part h.shape h.is_in

  -- a plane over d that is in v*O is a multiple of u - a
  multiple_numerator : (N : Plane K) → HasShape K.ring c.degree (pred (size K.ring M1)) N
      → IsMultiple P (over N) → IsRootMultiple c o a N
  multiple_numerator N shape h = subst (IsRootMultiple c o a)
      (residue_one K A AL c l (D.mul root o.modulus)
      (l.modulus_product root o.modulus modulus o.is_modulus)
      (at_u c (D.mul root o.modulus) * w) q.nums N q.residue own) q.is_in
    where
      w : C
      w = l.inverse M1 * at_theta c N

      q : InLattice c (D.mul root o.modulus) (IsRootMultiple c o a) w
      q = rescale_into K A AL c l o.modulus o.is_modulus root modulus o.space.In w
          (subst (InChartOrder c o) (first_over K A AL c l o a modulus N) h)

      own : IsResidue c (D.mul root o.modulus) (at_u c (D.mul root o.modulus) * w) N
      own = record {
        shape = subst (λ m. HasShape K.ring c.degree (pred (size K.ring m)) N) first_modulus shape;
        rest = A.zero;
        in_powers = powers_zero K A AL c l;
        sum = ap (λ m. at_u c m * w) (sym first_modulus)
            ∙ times_over K A AL c l M1 (pole_nonzero K A AL c l o a modulus 1) N
            ∙ ring2 A AL (λ n m. n) (λ n m. n ⊕ m ⊗ nil) refl (at_theta c N)
            (at_u c (D.mul root o.modulus));
      }

  module _ (F : ChartFibre c o a) where
    abbrev element : ℕ → C
    element i = over (F.plane i)

    -- a plane that is congruent to a combination
    congruent_sum : (e : ℕ → K.carrier) (N : Plane K) (h : IsCongruentTo c o a F.count F.plane e N)
        → over N ≡ combined P F.count e element + at_u c root * over h.part
    congruent_sum e N h = ap over (ring2 (planes K) PL (λ n s. n) (λ n s. s ⊕ (n ⊕ neg s)) refl N
        (plane_sum K.ring F.count e F.plane))
        ∙ ap (λ t. l.inverse o.modulus * t) (V.on_add _ _)
        ∙ ring3 A AL (λ i s t. i ⊗ (s ⊕ t)) (λ i s t. i ⊗ s ⊕ i ⊗ t) refl (l.inverse o.modulus)
        (at_theta c (plane_sum K.ring F.count e F.plane)) (at_theta c ((planes K).add N
        ((planes K).neg (plane_sum K.ring F.count e F.plane))))
        ∙ ap₂ A.add (sum_at_theta K A AL c l (l.inverse o.modulus) F.count e F.plane)
        (over_root _ h)

    pub element_in : (i : ℕ) → i < F.count → InChartOrder c o (element i)
    element_in i q = record {
      nums = n.nums;
      is_in = n.is_in;
      residue = record {
        shape = n.residue.shape;
        rest = n.residue.rest;
        in_powers = n.residue.in_powers;
        sum = times_over K A AL c l o.modulus modulus_nonzero (F.plane i) ∙ n.residue.sum;
      };
    }
      where
        n : IsNumerator c o a (F.plane i)
        n = F.numerator i q

    -- the elements of the first list are spanned
    pub first_spanned : (i : ℕ) → i < plus_ℕ c.degree o.space.count
        → IsSpanned P F.count element (spanning_element K A AL c l o a modulus i)
    first_spanned i q = go (cases_lt i c.degree)
      where
        go : (b : (i < c.degree) ⊎ (c.degree ≤ i)) → IsSpanned P F.count element
            (joined_by c.degree (λ i. power A c.theta i) (λ i. over (o.space.basis i)) i b)
        go (inl s) = record {
          coefficients = t.1.1.0;
          rest = over t.1.1.1.part;
          inside = part_in _ t.1.1.1;
          sum = cancel_u K A AL c l o.modulus modulus_nonzero _ _ (sym t.1.0
              ∙ sym (times_over K A AL c l o.modulus modulus_nonzero t.0)
              ∙ ap (λ z. at_u c o.modulus * z) (congruent_sum t.1.1.0 t.0 t.1.1.1));
        }
          where
            t : (N : Plane K) × ((at_theta c N ≡ at_u c o.modulus * power A c.theta i)
                × ((e : ℕ → K.carrier) × IsCongruentTo c o a F.count F.plane e N))
            t = F.of_theta i s
        go (inr s) = record {
          coefficients = t.0;
          rest = over t.1.part;
          inside = part_in _ t.1;
          sum = congruent_sum t.0 (o.space.basis (i - c.degree)) t.1;
        }
          where
            t : (e : ℕ → K.carrier)
                × IsCongruentTo c o a F.count F.plane e (o.space.basis (i - c.degree))
            t = F.of_basis (i - c.degree) (omega (arith, q, s))

    abbrev pub fibre_spanning : Spanning P
    fibre_spanning = record {
      count = F.count;
      element = element;
      inside = element_in;
      spans = λ w h. spanned P (plus_ℕ c.degree o.space.count) F.count
          (spanning_element K A AL c l o a modulus) element first_spanned w
          (spanning_spans K A AL c l o a modulus w h);
    }

    pub fibre_independent : (e : ℕ → K.carrier) → IsMultiple P (combined P F.count e element)
        → (i : ℕ) → i < F.count → e i ≡ K.zero
    fibre_independent e h = F.independent e (multiple_numerator (plane_sum K.ring F.count e F.plane)
        (sum_has_shape K c.degree (pred (size K.ring M1)) F.count e F.plane
        (λ i q. (F.numerator i q).shape)) (subst (IsMultiple P)
        (sym (sum_at_theta K A AL c l (l.inverse o.modulus) F.count e F.plane)) h))

    pub fibre_product : (i j : ℕ) → i < F.count → j < F.count
        → IsMultiple P (element i * element j
        + minus (combined P F.count (F.table i j) element))
    fibre_product i j q s = subst (IsMultiple P) (sym same) (v_multiple P (over t.congruent.part
        + t.residue.rest) (P.in_add _ _ (part_in _ t.congruent)
        (lat_powers_in K A AL c l o.modulus o.is_modulus o.space.In o.space.linear _
        t.residue.in_powers)))
      where
        t : IsProductEntry c o a F.count F.plane (F.plane i) (F.plane j) (F.table i j)
        t = F.products i j q s

        -- the product is the quotient over d
        quotient : element i * element j ≡ over t.quotient
        quotient = cancel_u K A AL c l o.modulus modulus_nonzero _ _
            (cancel_u K A AL c l o.modulus modulus_nonzero _ _
            (ring3 A AL (λ d x y. d ⊗ (d ⊗ (x ⊗ y))) (λ d x y. d ⊗ x ⊗ (d ⊗ y)) refl
            (at_u c o.modulus) (element i) (element j)
            ∙ ap₂ A.mul (times_over K A AL c l o.modulus modulus_nonzero (F.plane i))
            (times_over K A AL c l o.modulus modulus_nonzero (F.plane j))
            ∙ t.product ∙ ap (λ z. at_u c o.modulus * z)
            (sym (times_over K A AL c l o.modulus modulus_nonzero t.quotient))))

        -- and the quotient over d is its residue over d up to u - a times the rest
        residue : over t.quotient ≡ over t.nums + at_u c root * t.residue.rest
        residue = cancel_u K A AL c l o.modulus modulus_nonzero _ _
            (times_over K A AL c l o.modulus modulus_nonzero t.quotient ∙ t.residue.sum
            ∙ ap₂ (λ x y. x + y * t.residue.rest)
            (sym (times_over K A AL c l o.modulus modulus_nonzero t.nums))
            (ap (at_u c) first_modulus ∙ (at_u_map K A AL c l).on_mul root o.modulus)
            ∙ ring4 A AL (λ d n r y. d ⊗ n ⊕ r ⊗ d ⊗ y) (λ d n r y. d ⊗ (n ⊕ r ⊗ y)) refl
            (at_u c o.modulus) (over t.nums) (at_u c root) t.residue.rest)

        same : element i * element j + minus (combined P F.count (F.table i j) element)
            ≡ at_u c root * (over t.congruent.part + t.residue.rest)
        same = ap (λ z. z + minus (combined P F.count (F.table i j) element))
            (quotient ∙ residue ∙ ap (λ z. z + at_u c root * t.residue.rest)
            (congruent_sum (F.table i j) t.nums t.congruent))
            ∙ ring4 A AL (λ s r x y. (s ⊕ r ⊗ x ⊕ r ⊗ y) ⊕ neg s) (λ s r x y. r ⊗ (x ⊕ y)) refl
            (combined P F.count (F.table i j) element) (at_u c root) (over t.congruent.part)
            t.residue.rest

    abbrev pub fibre : Fibre (order_in K A AL c l o a modulus)
    fibre = record {
      spanning = fibre_spanning;
      independent = fibre_independent;
      table = F.table;
      products = fibre_product;
    }

module _ (K : Field) (A : RingOps) (AL : IsCommRing A) (c : Chart K.ring A) (l : IsChart K.ring A c)
    (o : ChartOrder c) (p : ChartPoint c o) (F : ChartFibre c o p.a) where
  -- a solution of the equations of the socle is the numerator of an element of it
  pub chart_socle : (e : ℕ → K.carrier) → IsSocleVector (order_at K A AL c l o p)
      (fibre K A AL c l o p.a p.is_modulus F) e
      → (i : ℕ) → i < F.count → ¬ (e i ≡ K.zero)
      → IsSocle (order_at K A AL c l o p)
      (over_modulus K A AL c l o (plane_sum K.ring F.count e F.plane))
  chart_socle e h i q nonzero = subst (IsSocle (order_at K A AL c l o p))
      (sym (sum_at_theta K A AL c l (l.inverse o.modulus) F.count e F.plane))
      (socle_computed (order_at K A AL c l o p)
      (fibre K A AL c l o p.a p.is_modulus F) e h i q nonzero)

  -- and there is one
  pub chart_socle_vector : (e : ℕ → K.carrier) × (IsSocleVector (order_at K A AL c l o p)
      (fibre K A AL c l o p.a p.is_modulus F) e
      × Found K.ring F.count e)
  chart_socle_vector = socle_vector (order_at K A AL c l o p)
      (fibre K A AL c l o p.a p.is_modulus F)
