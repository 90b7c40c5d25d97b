use Rattle.std.proofs.Common.{◌∙◌}
use Rattle.ff_theory.proofs.Results.{ok_both}
use Rattle.ff_elem.proofs.Quotients.{over-one-value}
use Rattle.ff_sep.proofs.parts.element_of_plane.Goals as goal

pub returns : goal.returns
returns g c =
    ok_both _ _ _ c.from_parts.result
    (λ r element value. record {
      element = element;
      value = value
          ∙ over-one-value (g.K.Ring.elements c.args.alg.now.k)
          (g.K.Ring.lawful c.args.alg.now.k) c.args.alg.now.f c.args.num.now c.in_ok-one.one
          c.in_ok-one.ensures.value;
    }) c.from_parts.ensures.element c.from_parts.ensures.value
