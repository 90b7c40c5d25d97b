use Rattle.std.proofs.Common.{arith}
use Rattle.ff_theory.proofs.Results.{ok_map, ok_both}
use Rattle.ff_data.proofs.MonicLemmas.{monic-length, slope-is, equation-is}
use Rattle.ff_data.proofs.chart.equation_at_infinity.Goals as goal

pub at_infinity-requires-clause-has_y : goal.at_infinity-requires-clause-has_y
at_infinity-requires-clause-has_y g c =
    let e = monic-length (g.K.Ring.elements c.args.alg.now.k) (g.K.Ring.lawful c.args.alg.now.k)
    c.args.alg.now.f c.args.alg.now.plane c.args.alg.now.has_y c.in_ok-monic.monic
    c.in_ok-monic.ensures.plane c.in_ok-monic.ensures.value in
    omega (arith, e, c.args.alg.now.has_y)

pub returns-clause-slope : goal.returns-clause-slope
returns-clause-slope g c =
    ok_map _ _ c.at_infinity.result
    (λ r h. slope-is (g.K.Ring.elements c.args.alg.now.k) (g.K.Ring.lawful c.args.alg.now.k)
    c.args.alg.now.f c.args.alg.now.plane c.args.alg.now.has_y c.in_ok-monic.monic r.0
    c.in_ok-monic.ensures.plane c.in_ok-monic.ensures.value h) c.at_infinity.ensures.slope

pub returns-clause-value : goal.returns-clause-value
returns-clause-value g c =
    ok_both _ _ _ c.at_infinity.result
    (λ r h v. equation-is (g.K.Ring.elements c.args.alg.now.k) (g.K.Ring.lawful c.args.alg.now.k)
    c.args.alg.now.f c.args.alg.now.plane c.args.alg.now.has_y c.in_ok-monic.monic r.1 r.0
    c.in_ok-monic.ensures.plane c.in_ok-monic.ensures.value h v) c.at_infinity.ensures.slope
    c.at_infinity.ensures.value
