-- An order of a chart is an order in its ring, with u - a as v.
use Rattle.std.proofs.Common.{◌∙◌, ◌⊎◌, [], ◌∷◌}
use Rattle.ff_theory.specs.Ring.{RingOps, IsCommRing}
use Rattle.ff_theory.specs.Lawful.{Field}
use Rattle.ff_theory.specs.Poly.{poly}
use Rattle.ff_theory.proofs.Evaluate.{eval-const}
use Rattle.ff_charts.specs.Chart.{Chart, at_u, InPowers, IsChart}
use Rattle.ff_charts.proofs.Chart.{powers_at, powers_u}
use Rattle.ff_charts.proofs.Closure.{lat_powers_in, lat_add}
use Rattle.ff_local.specs.Point.{OrderIn}
use Rattle.ff_local.specs.ChartOrder.{ChartOrder, InChartOrder, root_at}
use Rattle.ff_local.proofs.Decide.{decide_lattice}

module _ (K : Field) (A : RingOps) (AL : IsCommRing A) (c : Chart K.ring A) (l : IsChart K.ring A c)
    (o : ChartOrder c) (a : K.carrier) (modulus : c.IsModulus (root_at K.ring a)) where
  pub powers_in : (w : A.carrier) → InPowers c w → InChartOrder c o w
  powers_in = lat_powers_in K A AL c l o.modulus o.is_modulus o.space.In o.space.linear

  pub constant_in : (s : K.carrier) → InChartOrder c o (c.constant s)
  constant_in s = powers_in _ (powers_at K A AL c l
      (eval-const K.ring A K.laws K.tests AL c.constant l.constants c.u s)
      (powers_u K A AL c l (poly K.ring (s ∷ []))))

  pub decide : (w : A.carrier) → InChartOrder c o w ⊎ ¬ (InChartOrder c o w)
  decide w = decide_lattice K A AL c l o.modulus o.is_modulus o.space.In o.space.decide w

  abbrev pub order_in : OrderIn
  order_in = record {
    field = K;
    ring = A;
    laws = AL;
    constant = c.constant;
    constants = l.constants;
    In = InChartOrder c o;
    decide = decide;
    in_constant = constant_in;
    in_add = lat_add K A AL c l o.modulus o.is_modulus o.space.In o.space.linear;
    in_mul = o.closed;
    v = at_u c (root_at K.ring a);
    over_v = l.inverse (root_at K.ring a);
    in_v = powers_in _ (powers_u K A AL c l (root_at K.ring a));
    v_inverse = AL.mul_comm _ _
        ∙ l.inverts (root_at K.ring a) (l.modulus_nonzero (root_at K.ring a) modulus);
  }
