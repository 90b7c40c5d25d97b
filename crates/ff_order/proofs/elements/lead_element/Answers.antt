use Rattle.std.proofs.Common.{◌∙◌, ap}
use Rattle.ff_theory.specs.Values.{poly_of}
use Rattle.ff_theory.proofs.Results.{ok_both}
use Rattle.ff_order.proofs.ChartLemmas.{lead-element}
use Rattle.ff_order.proofs.elements.lead_element.Goals as goal

pub returns : goal.returns
returns g c =
    let F = g.K.Ring.elements c.args.alg.now.k in
    ok_both _ _ _ c.from_parts.result
    (λ r element value. record {
      element = element;
      value = value ∙ lead-element F (g.K.Ring.lawful c.args.alg.now.k) c.args.alg.now.f
          c.args.alg.now.plane c.args.alg.now.has_y c.in_ok-num.num c.in_ok-one.one
          c.in_ok-copy.field-0 c.in_ok-num.ensures.value
          (ap (poly_of F) c.in_ok-copy.ensures ∙ c.leading.ensures.value)
          c.in_ok-one.ensures.value;
    }) c.from_parts.ensures.element c.from_parts.ensures.value
