-- An order of a chart with all integral elements is maximal at each of its points, which so have a
-- local pair.
use Rattle.std.proofs.Common.{refl, sym, ◌∙◌, ap}
use Rattle.ff_theory.specs.Ring.{RingOps, IsCommRing, power}
use Rattle.ff_theory.specs.Lawful.{Field}
use Rattle.ff_theory.specs.Poly.{Poly, polynomials}
use Rattle.ff_theory.proofs.Solver.{◌⊗◌, ring3}
use Rattle.ff_charts.specs.Chart.{Chart, at_u, InPowers, IsIntegral, IsChart}
use Rattle.ff_charts.proofs.Chart.{at_u_map, powers_at}
use Rattle.ff_charts.proofs.Lattice.{lat_clears}
use Rattle.ff_local.specs.Point.{OrderAt, IsMaximalAt}
use Rattle.ff_local.specs.Module.{IsLocalPair}
use Rattle.ff_local.specs.ChartOrder.{ChartOrder, ChartPoint, InChartOrder, root_at}
use Rattle.ff_local.proofs.Maximal.{integral_maximal}
use Rattle.ff_local.proofs.LocalPair.{local_pair}
use Rattle.ff_local.proofs.ChartPoint.{order_at}
use Rattle.ff_local.proofs.ChartSpanning.{spanning}

module _ (K : Field) (A : RingOps) (AL : IsCommRing A) (c : Chart K.ring A) (l : IsChart K.ring A c)
    (o : ChartOrder c) (p : ChartPoint c o)
    (integral : (s : A.carrier) → IsIntegral c s → InChartOrder c o s) where
  infixl 70 ◌*◌
  open A use {mul as ◌*◌, carrier as C}

  abbrev P : OrderAt
  P = order_at K A AL c l o p

  -- u - a, and its product with the modulus
  abbrev root : Poly K.ring
  root = root_at K.ring p.a

  pub order_maximal : IsMaximalAt (order_at K A AL c l o p)
  order_maximal = integral_maximal P (InPowers c) (at_u c o.modulus)
      (λ a h. lat_clears K A AL c l o.modulus o.is_modulus o.space.In a h)
      (λ s h. integral s (record {
        modulus = (polynomials K.ring).mul o.modulus root;
        is_modulus = l.modulus_product o.modulus root o.is_modulus p.is_modulus;
        powers = λ j. powers_at K A AL c l
            (ring3 A AL (λ d s v. d ⊗ (s ⊗ v)) (λ d s v. (d ⊗ v) ⊗ s) refl
            (at_u c o.modulus) (power A s j) (at_u c root)
            ∙ ap (λ t. t * power A s j) (sym ((at_u_map K A AL c l).on_mul o.modulus root))) (h j);
      }))

  pub order_pair : (s : A.carrier) × (h : A.carrier) × IsLocalPair (order_at K A AL c l o p) s h
  order_pair = local_pair P (spanning K A AL c l o p.a p.is_modulus) order_maximal
