use Rattle.std.proofs.Common.{◌∙◌, ap₂}
use Rattle.ff_theory.proofs.Results.{ok_both}
use Rattle.ff_elem.specs.Elem.{algebra_in}
use Rattle.ff_basis.proofs.reading.step.Goals as goal

pub returns : goal.returns
returns g c =
    let A = algebra_in (g.K.Ring.lawful c.args.alg.now.k) c.args.alg.now.f in
    ok_both _ _ _ c.add.result
    (λ r element value. record {
      element = element;
      value = value ∙ ap₂ A.add c.in_ok-row.ensures.value c.in_ok-raised.ensures.value;
    }) c.add.ensures.element c.add.ensures.value
