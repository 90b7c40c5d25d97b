-- The powers of an element of the socle over u - a, as residues that are multiplied and divided.
use Rattle.std.proofs.Common.{◌≡◌, ℕ, zero, suc, pred, ◌+◌ as plus_ℕ, ◌<◌, ◌≤◌, refl, sym, ◌∙◌}
use Rattle.std.proofs.Common.{ap, ap₂}
use Rattle.std.proofs.Common.{false, subst, arith}
use Rattle.ff_theory.specs.Ring.{RingOps, IsCommRing}
use Rattle.ff_theory.specs.Lawful.{Domain, Field}
use Rattle.ff_theory.specs.Map.{IsMap}
use Rattle.ff_theory.specs.Poly.{Poly, polynomials}
use Rattle.ff_theory.specs.Division.{size}
use Rattle.ff_theory.specs.Planes.{planes, Plane, row_of}
use Rattle.ff_theory.proofs.Solver.{◌⊕◌, ◌⊗◌, neg, unit, ring2, ring3, ring4}
use Rattle.ff_theory.proofs.PolyMap.{polynomial_domain}
use Rattle.ff_charts.specs.Chart.{Chart, at_u, at_theta, IsIntegral, IsChart}
use Rattle.ff_charts.specs.Lattice.{HasShape, IsResidue, InLattice}
use Rattle.ff_charts.proofs.Chart.{at_u_map, cancel_u, powers_neg, powers_at}
use Rattle.ff_charts.proofs.Closure.{lat_powers_in}
use Rattle.ff_local.specs.Point.{OrderAt}
use Rattle.ff_local.specs.Module.{IsCarried, InModule, IsLocalPair, ArePowers}
use Rattle.ff_local.specs.Socle.{IsSocle}
use Rattle.ff_local.specs.ChartOrder.{ChartOrder, ChartPoint, InChartOrder, root_at}
use Rattle.ff_local.specs.ChartPole.{root_power, pole_modulus, IsPolePlane, IsPoleStep}
use Rattle.ff_local.specs.ChartPole.{ArePolePowers}
use Rattle.ff_local.proofs.Modules.{module_products}
use Rattle.ff_local.proofs.Powers.{powers_in, socle_pair}
use Rattle.ff_local.proofs.Quotients.{times_over as plane_over, first_over, is_pole_modulus}
use Rattle.ff_local.proofs.ChartPoint.{order_at, module_into, module_back}
use Rattle.ff_local.proofs.ChartSpanning.{spanning, over_modulus}
use Rattle.ff_local.proofs.ChartMaximal.{order_maximal}
use Rattle.ff_local.proofs.ChartQuotient.{plane_quotient, pole_clears}
use Rattle.ff_local.proofs.ChartPole.{pole_element, pole_into, pole_back}

module _ (K : Field) (A : RingOps) (AL : IsCommRing A) (c : Chart K.ring A) (l : IsChart K.ring A c)
    (o : ChartOrder c) (p : ChartPoint c o) where
  infixl 60 ◌+◌
  infixl 70 ◌*◌
  open A use {add as ◌+◌, mul as ◌*◌, neg as minus, carrier as C}

  abbrev D : Domain
  D = polynomial_domain K

  abbrev P : OrderAt
  P = order_at K A AL c l o p

  abbrev root : Poly K.ring
  root = root_at K.ring p.a

  abbrev M : ℕ → Poly K.ring
  M j = pole_modulus c o p.a j

  U : IsMap (polynomials K.ring) A (at_u c)
  U = at_u_map K A AL c l

  nonzero : (j : ℕ) → D.same (M j) D.zero ≡ false
  nonzero j = l.modulus_nonzero (M j) (is_pole_modulus K A AL c l o p.a p.is_modulus j)

  abbrev over : Poly K.ring → Plane K → C
  over m N = l.inverse m * at_theta c N

  times_over : (m : Poly K.ring) → D.same m D.zero ≡ false → (N : Plane K)
      → at_u c m * over m N ≡ at_theta c N
  times_over = plane_over K A AL c l

  -- an element and its residue over a modulus differ by an element of the order
  residue_near : (j : ℕ) (N W : Plane K) → IsResidue c (M j) (at_theta c N) W
      → InChartOrder c o (over (M j) W + minus (over (M j) N))
  residue_near j N W r = lat_powers_in K A AL c l o.modulus o.is_modulus o.space.In o.space.linear _
      (powers_at K A AL c l same (powers_neg K A AL c l r.rest r.in_powers))
    where
      whole : over (M j) N ≡ over (M j) W + r.rest
      whole = cancel_u K A AL c l (M j) (nonzero j) _ _ (times_over (M j) (nonzero j) N ∙ r.sum
          ∙ ap (λ t. t + at_u c (M j) * r.rest) (sym (times_over (M j) (nonzero j) W))
          ∙ ring3 A AL (λ m w r. m ⊗ w ⊕ m ⊗ r) (λ m w r. m ⊗ (w ⊕ r)) refl (at_u c (M j))
          (over (M j) W) r.rest)

      same : minus r.rest ≡ over (M j) W + minus (over (M j) N)
      same = ring2 A AL (λ r w. neg r) (λ r w. w ⊕ neg (w ⊕ r)) refl r.rest (over (M j) W)
          ∙ ap (λ t. over (M j) W + minus t) (sym whole)

  -- d times d*(u-a)^(i+1) is d*(u-a)^i times d*(u-a)
  two_moduli : (i : ℕ) → D.mul o.modulus (M (suc i)) ≡ D.mul (M i) (M 1)
  two_moduli i = ring3 D.ring D.laws (λ d v r. d ⊗ (v ⊗ r ⊗ d)) (λ d v r. r ⊗ d ⊗ (v ⊗ unit ⊗ d))
      refl o.modulus root (root_power c o p.a i)

  step_product : (i : ℕ) (G V W : Plane K) (s : IsPoleStep c o p.a (suc i) G V W)
      → over (M (suc i)) s.quotient ≡ over (M i) V * over (M 1) G
  step_product i G V W s = cancel_u K A AL c l (D.mul o.modulus (M (suc i)))
      (l.modulus_nonzero _ (l.modulus_product o.modulus (M (suc i)) o.is_modulus
      (is_pole_modulus K A AL c l o p.a p.is_modulus (suc i)))) _ _
      (ap (λ t. t * over (M (suc i)) s.quotient) (U.on_mul o.modulus (M (suc i)))
      ∙ AL.mul_assoc _ _ _
      ∙ ap (λ t. at_u c o.modulus * t) (times_over (M (suc i)) (nonzero (suc i)) s.quotient)
      ∙ sym s.product
      ∙ ap₂ A.mul (sym (times_over (M i) (nonzero i) V)) (sym (times_over (M 1) (nonzero 1) G))
      ∙ ring4 A AL (λ m v n g. m ⊗ v ⊗ (n ⊗ g)) (λ m v n g. m ⊗ n ⊗ (v ⊗ g)) refl
      (at_u c (M i)) (over (M i) V) (at_u c (M 1)) (over (M 1) G)
      ∙ ap (λ t. t * (over (M i) V * over (M 1) G)) (sym (U.on_mul (M i) (M 1))
      ∙ ap (at_u c) (sym (two_moduli i))))

  module _ (j : ℕ) (G : Plane K) (W : ℕ → Plane K) (h : ArePolePowers c o p.a j G W) where
    shapes : (i : ℕ) → i < j → HasShape K.ring c.degree (pred (size K.ring (M (suc i)))) (W (suc i))
    shapes zero q = (h.first q).shape
    shapes (suc i) q = (h.next i q).residue.shape

    abbrev element : ℕ → C
    element i = pole_element K A AL c l o p j W shapes i

    powers : ArePowers P (over (M 1) G) j element
    powers = record {
      first = λ q. residue_near 1 G (W 1) (h.first q);
      next = λ i q. subst (λ t. InChartOrder c o (element (suc (suc i)) + minus t))
          (step_product (suc i) G (W (suc i)) (W (suc (suc i))) (h.next i q))
          (residue_near (suc (suc i)) (h.next i q).quotient (W (suc (suc i)))
          (h.next i q).residue);
    }

    -- an order with all integral elements, and an element of the socle of which G is the numerator:
    -- then the pole module is the lattice of the pole planes
    module _ (integral : (s : A.carrier) → IsIntegral c s → InChartOrder c o s)
        (k : IsSocle (order_at K A AL c l o p) (over_modulus K A AL c l o G)) where
      pair : (t : C) × IsLocalPair P (over (M 1) G) t
      pair = subst (λ s. (t : C) × IsLocalPair P s t) (first_over K A AL c l o p.a p.is_modulus G)
          (socle_pair P (spanning K A AL c l o p.a p.is_modulus)
          (order_maximal K A AL c l o p integral)
          (over o.modulus G) k)

      pub pole_lattice_into : (w : A.carrier)
          → InLattice c (pole_modulus c o p.a j) (IsPolePlane c o p.a j W) w
          → IsCarried A (λ r. p.HasValue r K.zero) (InChartOrder c o) j w
      pole_lattice_into w q = module_back K A AL c l o p j w
          (pole_into K A AL c l o p j W shapes (over (M 1) G) pair.0 pair.1 powers w q)

      pub pole_lattice_back : (w : A.carrier)
          → IsCarried A (λ r. p.HasValue r K.zero) (InChartOrder c o) j w
          → InLattice c (pole_modulus c o p.a j) (IsPolePlane c o p.a j W) w
      pole_lattice_back w q = pole_back K A AL c l o p j W shapes (over (M 1) G) pair.0 pair.1
          powers w (module_into K A AL c l o p j w q)

      -- W (i+1) times G, as a plane with fewer rows than the equation, is d times a plane
      pub step_divides : (i : ℕ) → i < j → (N : Plane K) → size (polynomials K.ring) N ≤ c.degree
          → at_theta c N ≡ A.mul (at_theta c (W (suc i))) (at_theta c G)
          → (Q : Plane K) × (N ≡ (planes K).mul (row_of K.ring o.modulus) Q)
      step_divides i q N small e = plane_quotient K A AL c l o.modulus o.is_modulus
          (at_u c (M (suc (suc i))) * (element (suc i) * over (M 1) G))
          (pole_clears K A AL c l o p (suc (suc i)) _ inside) N small same
        where
          inside : InModule P (suc (suc i)) (element (suc i) * over (M 1) G)
          inside = let n : plus_ℕ (suc i) 1 ≡ suc (suc i) = omega arith in
              subst (λ n. InModule P n (element (suc i) * over (M 1) G)) n
              (module_products P (suc i) 1 _ _
              (powers_in P (over (M 1) G) pair.0 pair.1 j element powers i q) pair.1.into)

          same : at_theta c N
              ≡ at_u c o.modulus * (at_u c (M (suc (suc i))) * (element (suc i) * over (M 1) G))
          same = e ∙ ap₂ A.mul (sym (times_over (M (suc i)) (nonzero (suc i)) (W (suc i))))
              (sym (times_over (M 1) (nonzero 1) G))
              ∙ ring4 A AL (λ m v n g. m ⊗ v ⊗ (n ⊗ g)) (λ m v n g. m ⊗ n ⊗ (v ⊗ g)) refl
              (at_u c (M (suc i))) (element (suc i)) (at_u c (M 1)) (over (M 1) G)
              ∙ ap (λ t. t * (element (suc i) * over (M 1) G)) (sym (U.on_mul (M (suc i)) (M 1))
              ∙ ap (at_u c) (sym (two_moduli (suc i)))
              ∙ U.on_mul o.modulus (M (suc (suc i))))
              ∙ AL.mul_assoc _ _ _
