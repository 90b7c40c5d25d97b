use Rattle.std.proofs.Common.{◌∙◌, ap}
use Rattle.ff_theory.specs.Ring.{power}
use Rattle.ff_theory.specs.Monomial.{variable}
use Rattle.ff_theory.specs.Lawful.{lawful_field}
use Rattle.ff_theory.proofs.Results.{ok_map}
use Rattle.ff_theory.proofs.PolyMap.{polynomial_domain}
use Rattle.ff_data.proofs.MonicLemmas.{raised-length}
use Rattle.ff_data.proofs.chart.variable_power.Goals as goal

pub returns-clause-nonzero : goal.returns-clause-nonzero
returns-clause-nonzero g c =
    let F = g.K.Ring.elements c.args.k.now in
    let L = g.K.Ring.lawful c.args.k.now in
    let D = polynomial_domain (lawful_field L) in
    ok_map _ _ c.raise.result
    (λ r h. raised-length F L r c.in_ok-one.one c.args.m
    (ap (λ t. D.same t D.zero) c.in_ok-one.ensures.value ∙ D.proper) h) c.raise.ensures.value

pub returns-clause-value : goal.returns-clause-value
returns-clause-value g c =
    let F = g.K.Ring.elements c.args.k.now in
    let D = polynomial_domain (lawful_field (g.K.Ring.lawful c.args.k.now)) in
    ok_map _ _ c.raise.result
    (λ r h. h ∙ ap (D.mul (power D.ring (variable F.ring) c.args.m)) c.in_ok-one.ensures.value
    ∙ D.laws.mul_one (power D.ring (variable F.ring) c.args.m)) c.raise.ensures.value
