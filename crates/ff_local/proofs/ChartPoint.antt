-- An order of a chart with a point is an order at a point; its kernel has the elements of which 0
-- is a value.
use Rattle.std.proofs.Common.{◌≡◌, ℕ, ◌⊎◌, inl, inr, sym, ◌∙◌}
use Rattle.std.proofs.Common.{subst}
use Rattle.ff_theory.specs.Ring.{RingOps, IsCommRing}
use Rattle.ff_theory.specs.Lawful.{Field}
use Rattle.ff_theory.specs.Poly.{Poly}
use Rattle.ff_charts.specs.Chart.{Chart, at_u, IsChart}
use Rattle.ff_local.specs.Point.{OrderAt, InKernel}
use Rattle.ff_local.specs.Module.{IsCarried, InModule}
use Rattle.ff_local.specs.ChartOrder.{ChartOrder, ChartPoint, InChartOrder, root_at}
use Rattle.ff_local.proofs.Quotients.{root_value}
use Rattle.ff_local.proofs.ChartOrder.{order_in, decide}
use Rattle.ff_local.proofs.Modules.{carried_same}

module _ (K : Field) (A : RingOps) (AL : IsCommRing A) (c : Chart K.ring A) (l : IsChart K.ring A c)
    (o : ChartOrder c) (p : ChartPoint c o) where
  infixl 60 ◌+◌
  infixl 70 ◌*◌
  open A use {add as ◌+◌, mul as ◌*◌, neg as minus, carrier as C}

  abbrev In : A.carrier → Type 0
  In w = InChartOrder c o w

  -- u - a
  abbrev pub root : Poly K.ring
  root = root_at K.ring p.a

  -- the one value of an element of the order
  pub valued : (w : C) → In w ⊎ ¬ (In w) → K.carrier
  valued w (inl h) = (p.total w h).0
  valued w (inr n) = K.zero

  pub in_or_out : (w : C) → In w ⊎ ¬ (In w)
  in_or_out w = decide K A AL c l o p.a p.is_modulus w

  abbrev pub value_of : A.carrier → K.carrier
  value_of w = valued w (in_or_out w)

  pub value_is : (w : A.carrier) (s : K.carrier) → p.HasValue w s → value_of w ≡ s
  unfolding valued
  value_is w s h = go (in_or_out w)
    where
      go : (b : In w ⊎ ¬ (In w)) → valued w b ≡ s
      go (inl q) = p.single w _ s (p.total w q).1 h
      go (inr n) = absurd (n (p.inside w s h))

  pub has_value : (w : A.carrier) → InChartOrder c o w → p.HasValue w (value_of w)
  has_value w h = subst (p.HasValue w) (sym (value_is w (p.total w h).0 (p.total w h).1))
      (p.total w h).1

  -- the order at the point
  abbrev pub order_at : OrderAt
  order_at = record {
    order = order_in K A AL c l o p.a p.is_modulus;
    value = value_of;
    value_constant = λ s. value_is _ s (p.on_constant s);
    value_add = λ v w hv hw.
        value_is _ _ (p.on_add v w _ _ (has_value v hv) (has_value w hw));
    value_mul = λ v w hv hw.
        value_is _ _ (p.on_mul v w _ _ (has_value v hv) (has_value w hw));
    value_v = value_is _ _ value_v;
  }
    where
      value_v : p.HasValue (at_u c root) K.zero
      value_v = subst (λ w. p.HasValue w K.zero) (sym (root_value K A AL c l p.a))
          (subst (p.HasValue (c.constant (K.neg p.a) + c.u))
          (K.laws.add_comm _ _ ∙ K.laws.add_neg p.a)
          (p.on_add _ _ _ _ (p.on_constant (K.neg p.a)) p.on_u))

  -- the kernel
  pub kernel_into : (r : A.carrier) → p.HasValue r K.zero → InKernel order_at r
  kernel_into r h = record { inside = p.inside r K.zero h; vanishes = value_is r K.zero h }

  pub kernel_back : (r : A.carrier) → InKernel order_at r → p.HasValue r K.zero
  kernel_back r m = subst (p.HasValue r) m.vanishes (has_value r m.inside)

  -- the pole modules
  pub module_into : (j : ℕ) (w : A.carrier)
      → IsCarried A (λ r. p.HasValue r K.zero) (InChartOrder c o) j w → InModule order_at j w
  module_into = carried_same A (λ r. p.HasValue r K.zero) (InKernel order_at) In In kernel_back
      (λ w h. h)

  pub module_back : (j : ℕ) (w : A.carrier) → InModule order_at j w
      → IsCarried A (λ r. p.HasValue r K.zero) (InChartOrder c o) j w
  module_back = carried_same A (InKernel order_at) (λ r. p.HasValue r K.zero) In In kernel_into
      (λ w h. h)
