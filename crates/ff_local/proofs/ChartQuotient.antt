-- A plane that is m times an element of the power order is m times a plane; so a product of powers
-- can be divided.
use Rattle.std.proofs.Common.{◌≡◌, ℕ, ◌≤◌, refl, sym, ◌∙◌, ap}
use Rattle.std.proofs.Common.{ap₂, arith}
use Rattle.ff_theory.specs.Ring.{RingOps, IsCommRing}
use Rattle.ff_theory.specs.Lawful.{Domain, Field}
use Rattle.ff_theory.specs.Map.{IsMap}
use Rattle.ff_theory.specs.Divides.{IsCoprime}
use Rattle.ff_theory.specs.Poly.{Poly, polynomials}
use Rattle.ff_theory.specs.Division.{size}
use Rattle.ff_theory.specs.Planes.{planes, Plane, row_of}
use Rattle.ff_theory.proofs.Solver.{◌⊕◌, ◌⊗◌, unit, ring1, ring3, ring6, mul_zero}
use Rattle.ff_theory.proofs.Solver.{add_cancel}
use Rattle.ff_theory.proofs.Poly.{polynomial_laws}
use Rattle.ff_theory.proofs.Division.{const_mul_at, size-add, size-neg, size_le, zero_from}
use Rattle.ff_theory.proofs.Evaluate.{const_map}
use Rattle.ff_theory.proofs.FrobeniusPoly.{map-power}
use Rattle.ff_theory.proofs.PolyMap.{polynomial_domain}
use Rattle.ff_charts.specs.Chart.{Chart, at_u, at_theta, InPowers, IsChart}
use Rattle.ff_charts.proofs.Chart.{at_u_map, at_theta_map, row_times, powers_reduced, powers_at}
use Rattle.ff_charts.proofs.Lattice.{lat_clears}
use Rattle.ff_local.specs.Point.{OrderAt}
use Rattle.ff_local.specs.Module.{InModule}
use Rattle.ff_local.specs.ChartOrder.{ChartOrder, ChartPoint, root_at}
use Rattle.ff_local.specs.ChartPole.{root_power, pole_modulus}
use Rattle.ff_local.proofs.Basics.{v_kernel}
use Rattle.ff_local.proofs.Modules.{module_down}
use Rattle.ff_local.proofs.ChartPoint.{order_at}

module _ (K : Field) (A : RingOps) (AL : IsCommRing A) (c : Chart K.ring A) (l : IsChart K.ring A c)
  where
    infixl 60 ◌+◌
    infixl 70 ◌*◌
    open A use {add as ◌+◌, mul as ◌*◌, neg as minus, carrier as C}

    abbrev D : Domain
    D = polynomial_domain K

    PL : IsCommRing (planes K)
    PL = polynomial_laws D.ring D.laws D.tests

    V : IsMap (planes K) A (at_theta c)
    V = at_theta_map K A AL c l

    few : (h : Poly K.ring) (N : Plane K) → size (polynomials K.ring) N ≤ c.degree
        → size (polynomials K.ring) ((planes K).mul (row_of K.ring h) N) ≤ c.degree
    few h N q = size_le (polynomials K.ring) D.laws D.tests ((planes K).mul (row_of K.ring h) N)
        c.degree (λ i r. const_mul_at (polynomials K.ring) D.laws D.tests h N i
        ∙ ap (D.mul h) (zero_from (polynomials K.ring) D.laws D.tests N i (omega (arith, q, r)))
        ∙ mul_zero D.ring D.laws h)

    -- planes with fewer rows than the equation are determined by their values
    pub plane_single : (M N : Plane K) → size (polynomials K.ring) M ≤ c.degree
        → size (polynomials K.ring) N ≤ c.degree → at_theta c M ≡ at_theta c N → M ≡ N
    plane_single M N p q e = add_cancel (planes K) PL M N ((planes K).neg N)
        (l.independent ((planes K).add M ((planes K).neg N))
        (size-add (polynomials K.ring) D.laws D.tests M ((planes K).neg N) c.degree p
        (let s : size (polynomials K.ring) ((planes K).neg N) ≤ size (polynomials K.ring) N
        = size-neg (polynomials K.ring) D.laws D.tests N in omega (arith, s, q)))
        (V.on_add M ((planes K).neg N) ∙ ap₂ A.add e (V.on_neg N) ∙ AL.add_neg (at_theta c N))
        ∙ sym (PL.add_neg N))

    -- the rows are divisible
    pub plane_quotient : (m : Poly K.ring) → c.IsModulus m → (b : A.carrier) → InPowers c b
        → (N : Plane K) → size (polynomials K.ring) N ≤ c.degree
        → at_theta c N ≡ A.mul (at_u c m) b
        → (Q : Plane K) × (N ≡ (planes K).mul (row_of K.ring m) Q)
    plane_quotient m hm b p N small e = (Q, sym whole)
      where
        r : (T : Plane K) × ((size (polynomials K.ring) T ≤ c.degree)
            × (A.mul (at_u c p.unit) b ≡ at_theta c T))
        r = powers_reduced K A AL c l b p

        k : IsCoprime (polynomials K.ring) p.unit m
        k = l.coprime p.unit m p.is_unit hm

        row : Poly K.ring → Plane K
        row h = row_of K.ring h

        row_map : IsMap (polynomials K.ring) (planes K) (row_of K.ring)
        row_map = const_map (polynomials K.ring) D.laws D.tests

        -- s * N is m * T
        both : (planes K).mul (row p.unit) N ≡ (planes K).mul (row m) r.0
        both = plane_single _ _ (few p.unit N small) (few m r.0 r.1.0)
            (row_times K A AL c l p.unit N ∙ ap (λ t. at_u c p.unit * t) e
            ∙ ring3 A AL (λ s m b. s ⊗ (m ⊗ b)) (λ s m b. m ⊗ (s ⊗ b)) refl (at_u c p.unit)
            (at_u c m)
            b ∙ ap (λ t. at_u c m * t) r.1.1 ∙ sym (row_times K A AL c l m r.0))

        Q : Plane K
        Q = (planes K).add ((planes K).mul (row k.u) r.0) ((planes K).mul (row k.v) N)

        whole : (planes K).mul (row m) Q ≡ N
        whole = ring6 (planes K) PL (λ m u t v n z. m ⊗ (u ⊗ t ⊕ v ⊗ n))
            (λ m u t v n z. u ⊗ (m ⊗ t) ⊕ v ⊗ m ⊗ n) refl (row m) (row k.u) r.0 (row k.v) N N
            ∙ ap (λ t. (planes K).add ((planes K).mul (row k.u) t) ((planes K).mul
            ((planes K).mul (row k.v) (row m)) N)) (sym both)
            ∙ ring6 (planes K) PL (λ u s v m n z. u ⊗ (s ⊗ n) ⊕ v ⊗ m ⊗ n)
            (λ u s v m n z. (u ⊗ s ⊕ v ⊗ m) ⊗ n) refl (row k.u) (row p.unit) (row k.v) (row m) N N
            ∙ ap (λ t. (planes K).mul t N) (ap₂ (planes K).add (sym (row_map.on_mul k.u p.unit))
            (sym (row_map.on_mul k.v m)) ∙ sym (row_map.on_add _ _) ∙ ap (row_of K.ring) k.one
            ∙ row_map.on_one)
            ∙ ring1 (planes K) PL (λ n. unit ⊗ n) (λ n. n) refl N

    module _ (o : ChartOrder c) (p : ChartPoint c o) where
      abbrev P : OrderAt
      P = order_at K A AL c l o p

      -- d*(u-a)^j times an element of M_j is in the power order
      pub pole_clears : (j : ℕ) (w : A.carrier) → InModule (order_at K A AL c l o p) j w
          → InPowers c (A.mul (at_u c (pole_modulus c o p.a j)) w)
      pole_clears j w h = powers_at K A AL c l
          (ap (λ t. at_u c o.modulus * (w * t)) (sym (map-power (polynomials K.ring) A (at_u c)
          (at_u_map K A AL c l) (root_at K.ring p.a) j))
          ∙ ring3 A AL (λ d w r. d ⊗ (w ⊗ r)) (λ d w r. r ⊗ d ⊗ w) refl (at_u c o.modulus) w
          (at_u c (root_power c o p.a j))
          ∙ ap (λ t. t * w) (sym ((at_u_map K A AL c l).on_mul (root_power c o p.a j) o.modulus)))
          (lat_clears K A AL c l o.modulus o.is_modulus o.space.In _
          (module_down P (at_u c (root_at K.ring p.a)) (v_kernel P) j w h))
