use Rattle.std.proofs.Common.{◌-◌, ap, subst, arith}
use Rattle.ff_theory.proofs.Results.{ok_map}
use Rattle.ff_theory.specs.Division.{size}
use Rattle.ff_theory.specs.Lawful.{lawful_field}
use Rattle.ff_poly.proofs.LongDivision.{poly-size}
use Rattle.ff_common.specs.Common.{IsTimesSpace}
use Rattle.ff_quotients.proofs.QuotientResidues.{variable_power_size}
use Rattle.ff_common.proofs.times.power_times_space.Goals as goal

pub times_space-requires : goal.times_space-requires
times_space-requires g c =
    let F = g.K.Ring.elements c.args.alg.now.k in
    let L = g.K.Ring.lawful c.args.alg.now.k in
    let factor = c.in_ok-factor.factor in
    record {
      factor = c.in_ok-factor.ensures.poly;
      room = omega (
        arith,
        poly-size F.ring L.laws L.tests F.value factor c.in_ok-factor.ensures.poly.canonical,
        ap (size F.ring) c.in_ok-factor.ensures.value,
        variable_power_size (lawful_field L) (c.args.h - c.args.m),
        c.requires.room,
      );
      space = c.requires.space;
    }

pub returns-clause-times : goal.returns-clause-times
returns-clause-times g c =
    let L = g.K.Ring.lawful c.args.alg.now.k in
    ok_map _ _ c.times_space.result
    (λ s h. subst (λ p. IsTimesSpace L c.args.alg.now.f p c.args.m c.args.h c.args.space.now s)
    c.in_ok-factor.ensures.value h) c.times_space.ensures.times
