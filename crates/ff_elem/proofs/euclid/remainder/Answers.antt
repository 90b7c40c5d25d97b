use Rattle.std.proofs.Common.{arith}
use Rattle.ff_theory.proofs.Results.{ok_map}
use Rattle.ff_elem.proofs.EuclidSteps.{step-trans}
use Rattle.ff_elem.proofs.euclid.remainder.Goals as goal

pub returns-clause-shorter : goal.returns-clause-shorter
returns-clause-shorter g c = ok_map _ _ c.primitive_part.result
    (λ r h. omega (arith, h, c.in_ok-rest.ensures.shorter)) c.primitive_part.ensures.short

pub returns-clause-step : goal.returns-clause-step
returns-clause-step g c =
    ok_map _ _ c.primitive_part.result
    (λ r h. step-trans (g.K.Ring.elements c.args.k.now) (g.K.Ring.lawful c.args.k.now) c.args.a
    c.args.by.now c.in_ok-rest.rest r c.in_ok-rest.ensures.step (h c.args.by.now))
    c.primitive_part.ensures.step
