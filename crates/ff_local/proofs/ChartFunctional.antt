-- A functional on the fibre of an order of a chart is a point of it, with the value a of u.
use Rattle.std.proofs.Common.{◌≡◌, ℕ, refl, ◌∙◌, ap, subst}
use Rattle.ff_theory.specs.Ring.{RingOps, IsCommRing}
use Rattle.ff_theory.specs.Lawful.{Field}
use Rattle.ff_theory.proofs.Solver.{◌⊕◌, neg, ring2, zero_add}
use Rattle.ff_charts.specs.Chart.{Chart, at_u, IsChart}
use Rattle.ff_local.specs.Point.{OrderIn}
use Rattle.ff_local.specs.Fibre.{Fibre}
use Rattle.ff_local.specs.Functional.{HasFunctionalValue, IsFunctional}
use Rattle.ff_local.specs.ChartOrder.{ChartOrder, ChartPoint, root_at}
use Rattle.ff_local.proofs.Functional.{functional_inside, functional_total, functional_single}
use Rattle.ff_local.proofs.Functional.{functional_add, functional_constant, functional_mul}
use Rattle.ff_local.proofs.Functional.{functional_v}
use Rattle.ff_local.proofs.ChartOrder.{order_in}
use Rattle.ff_local.proofs.Quotients.{root_value}

module _ (K : Field) (A : RingOps) (AL : IsCommRing A) (c : Chart K.ring A) (l : IsChart K.ring A c)
    (o : ChartOrder c) (a : K.carrier) (modulus : c.IsModulus (root_at K.ring a))
    (F : Fibre (order_in K A AL c l o a modulus)) (chi : ℕ → K.carrier)
    (f : IsFunctional (order_in K A AL c l o a modulus) F chi) where
  infixl 60 ◌+◌
  open A use {add as ◌+◌, neg as minus, carrier as C}

  abbrev O : OrderIn
  O = order_in K A AL c l o a modulus

  pub u_value : HasFunctionalValue (order_in K A AL c l o a modulus) F chi c.u a
  u_value = subst (λ w. HasFunctionalValue O F chi w a) same
      (subst (HasFunctionalValue O F chi (at_u c (root_at K.ring a) + c.constant a))
      (zero_add K.ring K.laws a)
      (functional_add O F chi _ _ _ _ (functional_v O F chi) (functional_constant O F chi f a)))
    where
      same : at_u c (root_at K.ring a) + c.constant a ≡ c.u
      same = ap (λ t. t + c.constant a) (root_value K A AL c l a
          ∙ ap (λ t. t + c.u) (l.constants.on_neg a))
          ∙ ring2 A AL (λ a u. (neg a ⊕ u) ⊕ a) (λ a u. u) refl (c.constant a) c.u

  abbrev pub functional_point : ChartPoint c o
  functional_point = record {
    HasValue = HasFunctionalValue (order_in K A AL c l o a modulus) F chi;
    inside = functional_inside O F chi;
    total = functional_total O F chi;
    single = functional_single O F chi;
    on_constant = functional_constant O F chi f;
    on_add = functional_add O F chi;
    on_mul = functional_mul O F chi f;
    a = a;
    on_u = u_value;
    is_modulus = modulus;
  }
