use Rattle.std.proofs.Common.{sym, subst}
use Rattle.ff_theory.proofs.Results.{ok_map}
use Rattle.ff_data.specs.Orders.{chart_of}
use Rattle.ff_data.proofs.LocalOrder.{root_modulus}
use Rattle.ff_frac.proofs.powers.Powers.start.Goals as goal

pub of-requires-clause-modulus : goal.of-requires-clause-modulus
of-requires-clause-modulus g c =
    let F = g.K.Ring.elements c.args.alg.now.k in
    let L = g.K.Ring.lawful c.args.alg.now.k in
    let f = c.args.alg.now.f in
    let chart = c.args.order.now.chart in
    subst (chart_of L f chart).IsModulus (sym c.in_ok-root.ensures.value)
    (root_modulus F L f chart (F.value c.args.point.now.a) c.requires.point.at_infinity)

pub returns-clause-exact : goal.returns-clause-exact
returns-clause-exact g c place =
    ok_map _ _ c.of.result (λ r k. k c.args.point.now place c.in_ok-root.ensures.value
    (c.in_ok-multiplier.ensures.value place)) c.of.ensures.exact
