use Rattle.std.proofs.Common.{◌/◌, subst, IfSome, IfNone}
use Rattle.ff_theory.proofs.Results.{ok_map}
use Rattle.ff_data.specs.Systems.{IsExpression}
use Rattle.ff_describe.specs.Described.{frame_of, IsWritten}
use Rattle.ff_describe.proofs.systems.express_x.Goals as goal

pub express_by_steps-requires : goal.express_by_steps-requires
express_by_steps-requires g c = record {
  functions = c.requires.functions;
  w = c.in_ok-x.ensures.element;
}

pub returns-clause-some : goal.returns-clause-some
returns-clause-some g c =
    let L = g.K.Ring.lawful c.args.alg.now.k in
    let f = c.args.alg.now.f in
    let functions = c.args.functions.now in
    let limit = c.args.limit in
    ok_map _ _ c.express_by_steps.result (λ o h. subst (λ w. IfSome o (IsExpression L f
    (frame_of functions) w (limit / functions.e) limit)) c.in_ok-x.ensures.value h)
    c.express_by_steps.ensures.some

pub returns-clause-none : goal.returns-clause-none
returns-clause-none g c =
    let L = g.K.Ring.lawful c.args.alg.now.k in
    let f = c.args.alg.now.f in
    ok_map _ _ c.express_by_steps.result (λ o h. subst (λ w. IfNone o
    (¬ IsWritten L f c.args.limit c.args.functions.now w)) c.in_ok-x.ensures.value h)
    c.express_by_steps.ensures.none
