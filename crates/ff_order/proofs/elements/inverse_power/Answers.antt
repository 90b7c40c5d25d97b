use Rattle.std.proofs.Common.{◌∙◌}
use Rattle.ff_theory.proofs.Results.{ok_both}
use Rattle.ff_order.proofs.ChartLemmas.{inverse-power}
use Rattle.ff_order.proofs.elements.inverse_power.Goals as goal

pub returns : goal.returns
returns g c =
    ok_both _ _ _ c.from_parts.result
    (λ r element value. record {
      element = element;
      value = value ∙ inverse-power (g.K.Ring.elements c.args.alg.now.k)
          (g.K.Ring.lawful c.args.alg.now.k) c.args.alg.now.f c.args.alg.now.plane
          c.args.alg.now.has_y c.in_ok-num.num c.in_ok-one.field-0 c.in_ok-den.den c.args.e
          c.in_ok-num.ensures.value c.in_ok-one.ensures.value c.in_ok-den.ensures.value;
    }) c.from_parts.ensures.element c.from_parts.ensures.value
