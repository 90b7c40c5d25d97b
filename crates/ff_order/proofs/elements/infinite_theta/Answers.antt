use Rattle.std.proofs.Common.{◌∙◌, ap, ap₂}
use Rattle.ff_theory.specs.Ring.{power}
use Rattle.ff_theory.specs.Lawful.{lawful_field}
use Rattle.ff_theory.specs.Values.{plane_of}
use Rattle.ff_theory.proofs.Results.{ok_both}
use Rattle.ff_charts.specs.FieldCharts.{t_of}
use Rattle.ff_elem.specs.Elem.{algebra_in}
use Rattle.ff_order.proofs.elements.infinite_theta.Goals as goal

pub returns : goal.returns
returns g c =
    let F = g.K.Ring.elements c.args.alg.now.k in
    let L = g.K.Ring.lawful c.args.alg.now.k in
    let f = c.args.alg.now.f in
    let A = algebra_in L f in
    ok_both _ _ _ c.mul.result
    (λ r element value. record {
      element = element;
      value = value ∙ ap₂ A.mul (c.in_ok-t.ensures.value
          ∙ ap (power A (t_of (lawful_field L) (plane_of F f))) c.in_ok-e.ensures.slope)
          c.in_ok-y.ensures.value;
    }) c.mul.ensures.element c.mul.ensures.value
