use Rattle.std.proofs.Common.{ap, subst, arith}
use Rattle.ff_theory.specs.Vector.{vector_of}
use Rattle.ff_theory.proofs.Results.{ok_map}
use Rattle.ff_common.specs.Common.{IsTimesVector}
use Rattle.ff_theory.specs.Division.{size}
use Rattle.ff_theory.specs.Lawful.{lawful_field}
use Rattle.ff_poly.proofs.LongDivision.{poly-size}
use Rattle.ff_quotients.proofs.QuotientResidues.{variable_power_size}
use Rattle.ff_functions.proofs.images.raised.Goals as goal

pub times_vector-requires : goal.times_vector-requires
times_vector-requires g c =
    let F = g.K.Ring.elements c.args.alg.now.k in
    let L = g.K.Ring.lawful c.args.alg.now.k in
    let factor = c.in_ok-factor in
    record {
      factor = factor.ensures.poly;
      room = omega (
        arith,
        poly-size F.ring L.laws L.tests F.value factor.factor factor.ensures.poly.canonical,
        ap (size F.ring) factor.ensures.value,
        variable_power_size (lawful_field L) c.args.s,
        c.requires.room,
      );
      vector = c.requires.vector;
    }

pub returns-clause-value : goal.returns-clause-value
returns-clause-value g c =
    let F = g.K.Ring.elements c.args.alg.now.k in
    let L = g.K.Ring.lawful c.args.alg.now.k in
    let f = c.args.alg.now.f in
    let V = vector_of F in
    ok_map _ _ c.times_vector.result
    (λ r. subst (λ X. IsTimesVector L f X c.args.m c.args.h (V c.args.v.now) (V r.items))
    c.in_ok-factor.ensures.value) c.times_vector.ensures.value
