-- Values at a point of an order of a chart: of polynomials in u and theta, and of the power order.
use Rattle.std.proofs.Common.{◌≡◌, ℕ, zero, suc, ◌<◌, List, [], ◌∷◌, refl, sym, ◌∙◌, ap, ap₂, subst}
use Rattle.std.proofs.Common.{arith}
use Rattle.ff_theory.specs.Ring.{RingOps, IsCommRing}
use Rattle.ff_theory.specs.Lawful.{Domain, Field}
use Rattle.ff_theory.specs.Map.{IsMap}
use Rattle.ff_theory.specs.Divides.{IsCoprime}
use Rattle.ff_theory.specs.Sum.{sum_below}
use Rattle.ff_theory.specs.Poly.{Poly, polynomials}
use Rattle.ff_theory.specs.Eval.{eval_list, eval, plane_at}
use Rattle.ff_theory.specs.Planes.{planes, Plane}
use Rattle.ff_theory.proofs.Solver.{◌⊕◌, ◌⊗◌, nil, unit, ring1, ring2, ring3}
use Rattle.ff_theory.proofs.PolyMap.{polynomial_domain}
use Rattle.ff_charts.specs.Chart.{Chart, at_u, at_theta, InPowers, IsChart}
use Rattle.ff_charts.proofs.Chart.{at_u_map}
use Rattle.ff_local.specs.ChartOrder.{ChartOrder, ChartPoint, root_at}
use Rattle.ff_local.specs.ChartValue.{IsRoot, power_value}
use Rattle.ff_local.proofs.ChartOrder.{powers_in}
use Rattle.ff_local.proofs.ChartPoint.{order_at, has_value}

module _ (K : Field) (A : RingOps) (AL : IsCommRing A) (c : Chart K.ring A) (l : IsChart K.ring A c)
    (o : ChartOrder c) (p : ChartPoint c o) where
  infixl 60 ◌+◌
  infixl 70 ◌*◌
  open A use {add as ◌+◌, mul as ◌*◌, neg as minus, carrier as C}

  abbrev D : Domain
  D = polynomial_domain K

  -- an equal element and an equal value
  pub valued_at : (v w : A.carrier) (s t : K.carrier) → v ≡ w → s ≡ t → p.HasValue v s
      → p.HasValue w t
  valued_at v w s t e f h = subst (λ x. p.HasValue x t) e (subst (p.HasValue v) f h)

  value_zero : p.HasValue A.zero K.zero
  value_zero = subst (λ x. p.HasValue x K.zero) l.constants.on_zero (p.on_constant K.zero)

  value_one : p.HasValue A.one K.one
  value_one = subst (λ x. p.HasValue x K.one) l.constants.on_one (p.on_constant K.one)

  -- polynomials with coefficients that have values, at an element that has one
  value_list : {X : Type 0} (h : X → C) (k : X → K.carrier) (y : C) (b : K.carrier)
      → ((x : X) → p.HasValue (h x) (k x)) → p.HasValue y b → (xs : List X)
      → p.HasValue (eval_list A h y xs) (eval_list K.ring k b xs)
  value_list h k y b each at_y [] = value_zero
  value_list h k y b each at_y (x ∷ xs) = p.on_add _ _ _ _ (each x)
      (p.on_mul _ _ _ _ at_y (value_list h k y b each at_y xs))

  pub value_at_u : (g : Poly K.ring)
      → p.HasValue (at_u c g) (eval K.ring K.ring (λ s. s) p.a g)
  unfolding eval
  value_at_u g = value_list c.constant (λ s. s) c.u p.a p.on_constant p.on_u g.coeffs

  module _ (b : K.carrier) (on_theta : p.HasValue c.theta b) where
    pub value_at_theta : (N : Plane K) → p.HasValue (at_theta c N)
        (plane_at K.ring K.ring (λ s. s) p.a b N)
    unfolding eval
    value_at_theta N = value_list (at_u c) (eval K.ring K.ring (λ s. s) p.a) c.theta b value_at_u
        on_theta N.coeffs

    -- theta is a root of the equation
    pub point_root : IsRoot K c p.a b
    point_root = p.single A.zero _ K.zero (subst (λ x. p.HasValue x
        (plane_at K.ring K.ring (λ s. s) p.a b c.equation)) l.root (value_at_theta c.equation))
        value_zero

    -- a unit has not the value 0
    unit_value : (s : Poly K.ring) → c.IsUnit s
        → ¬ (eval K.ring K.ring (λ s. s) p.a s ≡ K.zero)
    unit_value s us e = K.is_field.one_not_zero (p.single A.one K.one K.zero value_one
        (valued_at _ A.one _ K.zero whole
        (ap₂ (λ x y. K.add (K.mul (at_a k.u) x) (K.mul (at_a k.v) y)) e refl
        ∙ ring2 K.ring K.laws (λ u v. u ⊗ nil ⊕ v ⊗ nil) (λ u v. nil) refl (at_a k.u) (at_a k.v))
        (p.on_add _ _ _ _ (p.on_mul _ _ _ _ (value_at_u k.u) (value_at_u s))
        (p.on_mul _ _ _ _ (value_at_u k.v) root_zero))))
      where
        at_a : Poly K.ring → K.carrier
        at_a g = eval K.ring K.ring (λ s. s) p.a g

        k : IsCoprime (polynomials K.ring) s (root_at K.ring p.a)
        k = l.coprime s (root_at K.ring p.a) us p.is_modulus

        root_zero : p.HasValue (at_u c (root_at K.ring p.a)) K.zero
        root_zero = subst (p.HasValue (at_u c (root_at K.ring p.a)))
            ((order_at K A AL c l o p).value_v) (has_value K A AL c l o p _
            ((order_at K A AL c l o p).in_v))

        U : IsMap (polynomials K.ring) A (at_u c)
        U = at_u_map K A AL c l

        whole : at_u c k.u * at_u c s + at_u c k.v * at_u c (root_at K.ring p.a) ≡ A.one
        whole = ap₂ A.add (sym (U.on_mul k.u s)) (sym (U.on_mul k.v (root_at K.ring p.a)))
            ∙ sym (U.on_add _ _) ∙ ap (at_u c) k.one ∙ U.on_one

    -- an element of the power order
    pub value_powers : (w : A.carrier) (h : InPowers c w)
        → p.HasValue w (power_value K c p.a b h)
    value_powers w h = valued_at w w t.0 _ refl
        (ring1 K.ring K.laws (λ t. t) (λ t. unit ⊗ t) refl t.0
        ∙ ap (λ z. K.mul z t.0) (sym (K.is_field.mul_inverse s (unit_value h.unit h.is_unit)))
        ∙ ring3 K.ring K.laws (λ s i t. s ⊗ i ⊗ t) (λ s i t. i ⊗ (s ⊗ t)) refl s (K.inverse s) t.0
        ∙ ap (K.mul (K.inverse s)) same) t.1
      where
        s : K.carrier
        s = eval K.ring K.ring (λ s. s) p.a h.unit

        t : (v : K.carrier) × p.HasValue w v
        t = p.total w (powers_in K A AL c l o p.a p.is_modulus w h)

        same : K.mul s t.0 ≡ plane_at K.ring K.ring (λ s. s) p.a b h.nums
        same = p.single (at_theta c h.nums) _ _ (subst (λ x. p.HasValue x (K.mul s t.0)) h.clears
            (p.on_mul _ _ _ _ (value_at_u h.unit) t.1)) (value_at_theta h.nums)

  -- a combination of elements that have values
  pub value_combination : (r : ℕ) (e : ℕ → K.carrier) (w : ℕ → A.carrier) (s : ℕ → K.carrier)
      → ((i : ℕ) → i < r → p.HasValue (w i) (s i))
      → p.HasValue (sum_below A r (λ i. A.mul (c.constant (e i)) (w i)))
      (sum_below K.ring r (λ i. K.mul (e i) (s i)))
  value_combination zero e w s h = value_zero
  value_combination (suc r) e w s h = p.on_add _ _ _ _
      (value_combination r e w s (λ i q. h i (omega arith)))
      (p.on_mul _ _ _ _ (p.on_constant (e r)) (h r (omega arith)))
