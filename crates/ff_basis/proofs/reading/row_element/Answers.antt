use Rattle.std.proofs.Common.{◌∙◌, ap}
use Rattle.ff_theory.specs.Lawful.{lawful_field}
use Rattle.ff_theory.specs.Values.{plane_of}
use Rattle.ff_theory.specs.Algebra.{value_of}
use Rattle.ff_theory.proofs.Results.{ok_both}
use Rattle.ff_elem.proofs.Quotients.{over-one-value}
use Rattle.ff_basis.proofs.reading.row_element.Goals as goal

pub returns : goal.returns
returns g c =
    let F = g.K.Ring.elements c.args.alg.now.k in
    let L = g.K.Ring.lawful c.args.alg.now.k in
    let f = c.args.alg.now.f in
    ok_both _ _ _ c.from_parts.result
    (λ r element value. record {
      element = element;
      value = value
          ∙ over-one-value F L f c.from_vec-num.result c.in_ok-one.one c.in_ok-one.ensures.value
          ∙ ap (value_of (lawful_field L) (plane_of F f))
          (c.from_vec-num.ensures.value ∙ ap (plane_of F) c.in_ok-single.ensures);
    }) c.from_parts.ensures.element c.from_parts.ensures.value
