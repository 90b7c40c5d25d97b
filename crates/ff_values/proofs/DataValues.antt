-- The value by data of an element of an order is its value at a point that has these data.
use Rattle.std.proofs.Common.{◌≡◌, ℕ, pred, ◌*◌ as times_ℕ, ◌<◌, refl, sym, ◌∙◌, ap, ap₂, subst}
use Rattle.ff_theory.specs.Ring.{RingOps, IsCommRing}
use Rattle.ff_theory.specs.Lawful.{Field}
use Rattle.ff_theory.specs.Sum.{sum_below}
use Rattle.ff_theory.specs.Poly.{Poly}
use Rattle.ff_theory.specs.Division.{size}
use Rattle.ff_theory.specs.Planes.{Plane}
use Rattle.ff_theory.specs.Span.{EndsAt, InSpan, IsEchelon}
use Rattle.ff_theory.proofs.Solver.{◌⊕◌, ◌⊗◌, ring4}
use Rattle.ff_charts.specs.Chart.{Chart, at_u, at_theta, IsChart}
use Rattle.ff_charts.specs.Lattice.{IsClosed, flat}
use Rattle.ff_charts.proofs.Chart.{cancel_u}
use Rattle.ff_local.specs.ChartOrder.{ChartOrder, ChartPoint, plane_sum}
use Rattle.ff_local.specs.ChartValue.{InSpanLattice, value_by, HasValueBy, power_value}
use Rattle.ff_local.proofs.ChartData.{order_of}
use Rattle.ff_local.proofs.ChartSpanning.{over_modulus, sum_at_theta}
use Rattle.ff_local.proofs.Quotients.{times_over}
use Rattle.ff_values.proofs.PointValues.{valued_at, value_powers, value_combination}

module _ (K : Field) (A : RingOps) (AL : IsCommRing A) (c : Chart K.ring A) (l : IsChart K.ring A c)
    (m : Poly K.ring) (hm : c.IsModulus m) (i r : ℕ) (basis : ℕ → ℕ → K.carrier)
    (rows : i ≡ pred (size K.ring m)) (pivot : ℕ → ℕ)
    (echelon : IsEchelon K.ring r basis pivot)
    (ends : (j : ℕ) → j < r → EndsAt K.ring (times_ℕ c.degree i) (basis j))
    (closed : IsClosed c m (λ N. InSpan K.ring r basis (flat K.ring i N))) where
  infixl 60 ◌+◌
  infixl 70 ◌*◌
  open A use {add as ◌+◌, mul as ◌*◌, neg as minus, carrier as C}

  abbrev o : ChartOrder c
  o = order_of K A AL c l m hm i r basis rows pivot echelon ends closed

  abbrev over : Plane K → C
  over N = l.inverse m * at_theta c N

  module _ (p : ChartPoint c (order_of K A AL c l m hm i r basis rows pivot echelon ends closed))
      (b : K.carrier) (on_theta : p.HasValue c.theta b) (values : ℕ → K.carrier)
      (on_basis : (j : ℕ) → j < r → p.HasValue (A.mul (l.inverse m) (at_theta c
      ((order_of K A AL c l m hm i r basis rows pivot echelon ends closed).space.basis j)))
      (values j)) where
    -- an element of the lattice has the value by the data
    pub data_value : (w : A.carrier) (h : InSpanLattice K c p.a b m i r basis values w)
        → p.HasValue w (value_by K c p.a b m i r basis values h)
    data_value w h = valued_at K A AL c l o p _ w _ _ (sym parts) refl (p.on_add _ _ _ _
        (valued_at K A AL c l o p _ (over h.nums) _ _ (sym nums) refl
        (value_combination K A AL c l o p r h.is_in.coefficients (λ j. over (o.space.basis j))
        values on_basis))
        (value_powers K A AL c l o p b on_theta h.residue.rest h.residue.in_powers))
      where
        nums : over h.nums ≡ sum_below A r (λ j. c.constant (h.is_in.coefficients j)
            * over (o.space.basis j))
        nums = ap over (o.space.spans h.nums h.residue.shape h.is_in).1
            ∙ sum_at_theta K A AL c l (l.inverse m) r h.is_in.coefficients o.space.basis

        parts : w ≡ over h.nums + h.residue.rest
        parts = cancel_u K A AL c l m (l.modulus_nonzero m hm) _ _ (h.residue.sum
            ∙ ap (λ t. t + at_u c m * h.residue.rest)
            (sym (times_over K A AL c l m (l.modulus_nonzero m hm) h.nums))
            ∙ ring4 A AL (λ m n r z. m ⊗ n ⊕ m ⊗ r) (λ m n r z. m ⊗ (n ⊕ r)) refl (at_u c m)
            (over h.nums) h.residue.rest A.zero)

    -- and the values at the point are those by the data
    pub value_into : (w : A.carrier) (v : K.carrier)
        → HasValueBy K c p.a b m i r basis values w v → p.HasValue w v
    value_into w v h = subst (p.HasValue w) (sym h.1) (data_value w h.0)

    pub value_back : (w : A.carrier) (v : K.carrier) → p.HasValue w v
        → HasValueBy K c p.a b m i r basis values w v
    value_back w v h = (p.inside w v h, p.single w v _ h (data_value w (p.inside w v h)))
