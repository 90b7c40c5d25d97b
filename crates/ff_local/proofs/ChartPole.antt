-- The pole modules of an order of a chart are residue lattices.
use Rattle.std.proofs.Common.{◌≡◌, ℕ, suc, pred, ◌+◌ as plus_ℕ, ◌-◌, ◌<◌}
use Rattle.std.proofs.Common.{false, refl, sym, ◌∙◌, ap, ap₂, subst, arith}
use Rattle.ff_theory.specs.Ring.{RingOps, IsCommRing}
use Rattle.ff_theory.specs.Lawful.{Domain, Field}
use Rattle.ff_theory.specs.Map.{IsMap}
use Rattle.ff_theory.specs.Poly.{Poly, polynomials}
use Rattle.ff_theory.specs.Division.{size}
use Rattle.ff_theory.specs.Planes.{planes, Plane, row_of}
use Rattle.ff_theory.proofs.Solver.{◌⊕◌, ◌⊗◌, unit, ring3, ring4}
use Rattle.ff_theory.proofs.Sums.{sum-ext}
use Rattle.ff_theory.proofs.Powers.{power-add}
use Rattle.ff_theory.proofs.PolyMap.{polynomial_domain}
use Rattle.ff_charts.specs.Chart.{Chart, at_u, at_theta, IsChart}
use Rattle.ff_charts.specs.Lattice.{HasShape, InLattice}
use Rattle.ff_charts.proofs.Chart.{at_u_map, at_theta_map, row_times, cancel_u}
use Rattle.ff_charts.proofs.Lattice.{lat_parts, lat_element, times_shape}
use Rattle.ff_charts.proofs.Closure.{lat_powers_in, lat_add, shape_plus}
use Rattle.ff_local.specs.Point.{OrderAt, combined}
use Rattle.ff_local.specs.Module.{InModule, IsLocalPair, IsBuilt, ArePowers}
use Rattle.ff_local.specs.ChartOrder.{ChartOrder, ChartPoint, root_at, plane_sum}
use Rattle.ff_local.specs.ChartPole.{root_power, pole_modulus, IsPolePlane}
use Rattle.ff_local.proofs.Quotients.{root_modulus, is_pole_modulus}
use Rattle.ff_local.proofs.ChartPoint.{order_at}
use Rattle.ff_local.proofs.PlaneSums.{sum_has_shape}
use Rattle.ff_local.proofs.ChartSpanning.{sum_at_theta, in_over}
use Rattle.ff_local.proofs.Powers.{powers_into, powers_back}

module _ (K : Field) (A : RingOps) (AL : IsCommRing A) (c : Chart K.ring A) (l : IsChart K.ring A c)
    (o : ChartOrder c) (p : ChartPoint c o) where
  infixl 60 ◌+◌
  infixl 70 ◌*◌
  open A use {add as ◌+◌, mul as ◌*◌, neg as minus, carrier as C}

  abbrev D : Domain
  D = polynomial_domain K

  abbrev P : OrderAt
  P = order_at K A AL c l o p

  abbrev root : Poly K.ring
  root = root_at K.ring p.a

  abbrev M : ℕ → Poly K.ring
  M j = pole_modulus c o p.a j

  abbrev R : ℕ → Poly K.ring
  R j = root_power c o p.a j

  abbrev short : Plane K → ℕ → Type 0
  short N j = HasShape K.ring c.degree (pred (size K.ring (M j))) N

  U : IsMap (polynomials K.ring) A (at_u c)
  U = at_u_map K A AL c l

  V : IsMap (planes K) A (at_theta c)
  V = at_theta_map K A AL c l

  -- the quotient of a plane by a modulus
  abbrev over : Poly K.ring → Plane K → C
  over m N = l.inverse m * at_theta c N

  -- a common factor cancels
  pub over_times : (g m : Poly K.ring) → c.IsModulus g → c.IsModulus m → (N : Plane K)
      → over (D.mul g m) ((planes K).mul (row_of K.ring g) N) ≡ over m N
  over_times g m hg hm N = cancel_u K A AL c l (D.mul g m) nonzero _ _
      (sym (AL.mul_assoc _ _ _)
      ∙ ap (λ t. t * at_theta c ((planes K).mul (row_of K.ring g) N))
      (AL.mul_comm _ _ ∙ l.inverts (D.mul g m) nonzero)
      ∙ ap (λ t. A.one * t) (row_times K A AL c l g N)
      ∙ ring3 A AL (λ g n z. unit ⊗ (g ⊗ n)) (λ g n z. g ⊗ (unit ⊗ n)) refl (at_u c g)
      (at_theta c N) A.one
      ∙ ap (λ t. at_u c g * (t * at_theta c N)) (sym (l.inverts m (l.modulus_nonzero m hm)))
      ∙ ring4 A AL (λ g i m n. g ⊗ (i ⊗ m ⊗ n)) (λ g i m n. g ⊗ m ⊗ (i ⊗ n)) refl (at_u c g)
      (l.inverse m) (at_u c m) (at_theta c N)
      ∙ ap (λ t. t * over m N) (sym (U.on_mul g m)))
    where
      nonzero : D.same (D.mul g m) D.zero ≡ false
      nonzero = l.modulus_nonzero (D.mul g m) (l.modulus_product g m hg hm)

  -- d*(u-a)^j is (u-a)^(j-i) times d*(u-a)^i
  split_modulus : (j i : ℕ) → i < j → D.mul (R (j - suc i)) (M (suc i)) ≡ M j
  split_modulus j i q = sym (D.laws.mul_assoc (R (j - suc i)) (R (suc i)) o.modulus)
      ∙ ap (λ t. D.mul t o.modulus) (sym (power-add D.ring D.laws root (j - suc i) (suc i))
      ∙ (let e : plus_ℕ (j - suc i) (suc i) ≡ j = omega arith in ap R e))

  module _ (j : ℕ) (W : ℕ → Plane K) (shapes : (i : ℕ) → i < j → HasShape K.ring c.degree
      (pred (size K.ring (pole_modulus c o p.a (suc i)))) (W (suc i))) where
    -- the elements that the planes stand for
    abbrev pub pole_element : ℕ → A.carrier
    pole_element i = A.mul (l.inverse (pole_modulus c o p.a i)) (at_theta c (W i))

    abbrev raised : ℕ → Plane K
    raised i = (planes K).mul (row_of K.ring (R (j - suc i))) (W (suc i))

    raised_over : (i : ℕ) → i < j → over (M j) (raised i) ≡ pole_element (suc i)
    raised_over i q = ap (λ m. over m (raised i)) (sym (split_modulus j i q))
        ∙ over_times (R (j - suc i)) (M (suc i)) (root_modulus K A AL c l o p.a p.is_modulus
        (j - suc i))
        (is_pole_modulus K A AL c l o p.a p.is_modulus (suc i)) (W (suc i))

    pub raised_short : (i : ℕ) → i < j → short (raised i) j
    raised_short i q = subst (λ m. HasShape K.ring c.degree (pred (size K.ring m)) (raised i))
        (split_modulus j i q)
        (times_shape K A AL c l (M (suc i)) (is_pole_modulus K A AL c l o p.a p.is_modulus
        (suc i)) (R (j - suc i))
        (root_modulus K A AL c l o p.a p.is_modulus (j - suc i)) (λ N. Unit {0}) (W (suc i))
        (shapes i q))

    -- a pole plane over its modulus
    pole_value : (N : Plane K) (h : IsPolePlane c o p.a j W N) → over (M j) N
        ≡ over o.modulus h.part + combined P.order j h.coefficients (λ i. pole_element (suc i))
    pole_value N h = ap (over (M j)) h.sum
        ∙ ap (λ t. l.inverse (M j) * t) (V.on_add _ _)
        ∙ ring3 A AL (λ i a b. i ⊗ (a ⊕ b)) (λ i a b. i ⊗ a ⊕ i ⊗ b) refl (l.inverse (M j))
        (at_theta c ((planes K).mul (row_of K.ring (R j)) h.part))
        (at_theta c (plane_sum K.ring j h.coefficients raised))
        ∙ ap₂ A.add (over_times (R j) o.modulus
        (root_modulus K A AL c l o p.a p.is_modulus j) o.is_modulus h.part)
        (sum_at_theta K A AL c l (l.inverse (M j)) j h.coefficients raised
        ∙ sum-ext A AL j _ _ (λ i q. ap (λ t. c.constant (h.coefficients i) * t) (raised_over i q)))

    -- what is over the order's modulus is in the order
    built_in : (w : C) → InLattice c (M j) (IsPolePlane c o p.a j W) w → IsBuilt P j pole_element w
    built_in w h = record {
      coefficients = h.is_in.coefficients;
      rest = over o.modulus h.is_in.part + h.residue.rest;
      inside = lat_add K A AL c l o.modulus o.is_modulus o.space.In o.space.linear _ _
          (in_over K A AL c l o h.is_in.part h.is_in.shape h.is_in.is_in)
          (lat_powers_in K A AL c l o.modulus o.is_modulus o.space.In o.space.linear _
          h.residue.in_powers);
      sum = lat_parts K A AL c l (M j) (is_pole_modulus K A AL c l o p.a p.is_modulus j)
          (IsPolePlane c o p.a j W) w h
          ∙ ap (λ t. t + h.residue.rest) (pole_value h.nums h.is_in)
          ∙ ring3 A AL (λ a s r. (a ⊕ s) ⊕ r) (λ a s r. (a ⊕ r) ⊕ s) refl
          (over o.modulus h.is_in.part)
          (combined P.order j h.is_in.coefficients (λ i. pole_element (suc i))) h.residue.rest;
    }

    in_built : (w : C) → IsBuilt P j pole_element w → InLattice c (M j) (IsPolePlane c o p.a j W) w
    in_built w b = subst (InLattice c (M j) (IsPolePlane c o p.a j W)) (sym same)
        (lat_element K A AL c l (M j) (is_pole_modulus K A AL c l o p.a p.is_modulus j)
        (IsPolePlane c o p.a j W) N shape plane
        b.inside.residue.rest b.inside.residue.in_powers)
      where
        N : Plane K
        N = (planes K).add ((planes K).mul (row_of K.ring (R j)) b.inside.nums)
            (plane_sum K.ring j b.coefficients raised)

        plane : IsPolePlane c o p.a j W N
        plane = record {
          part = b.inside.nums;
          shape = b.inside.residue.shape;
          is_in = b.inside.is_in;
          coefficients = b.coefficients;
          sum = refl;
        }

        shape : short N j
        shape = shape_plus K c.degree (pred (size K.ring (M j))) _ _
            (times_shape K A AL c l o.modulus o.is_modulus (R j)
            (root_modulus K A AL c l o p.a p.is_modulus j) o.space.In
            b.inside.nums b.inside.residue.shape) (sum_has_shape K c.degree
            (pred (size K.ring (M j))) j b.coefficients raised raised_short)

        same : w ≡ over (M j) N + b.inside.residue.rest
        same = b.sum ∙ ap (λ t. t + combined P.order j b.coefficients (λ i. pole_element (suc i)))
            (lat_parts K A AL c l o.modulus o.is_modulus o.space.In b.rest b.inside)
            ∙ ring3 A AL (λ a r s. (a ⊕ r) ⊕ s) (λ a r s. (a ⊕ s) ⊕ r) refl
            (over o.modulus b.inside.nums) b.inside.residue.rest
            (combined P.order j b.coefficients (λ i. pole_element (suc i)))
            ∙ ap (λ t. t + b.inside.residue.rest) (sym (pole_value N plane))

    -- where the elements are powers of one that has a partner, the lattice is the pole module
    module _ (s h : A.carrier) (pair : IsLocalPair (order_at K A AL c l o p) s h)
        (powers : ArePowers (order_at K A AL c l o p) s j pole_element) where
      pub pole_into : (w : A.carrier)
          → InLattice c (pole_modulus c o p.a j) (IsPolePlane c o p.a j W) w
          → InModule (order_at K A AL c l o p) j w
      pole_into w q = powers_into P s h pair j pole_element powers w (built_in w q)

      pub pole_back : (w : A.carrier) → InModule (order_at K A AL c l o p) j w
          → InLattice c (pole_modulus c o p.a j) (IsPolePlane c o p.a j W) w
      pole_back w q = in_built w (powers_back P s h pair j pole_element powers w q)
