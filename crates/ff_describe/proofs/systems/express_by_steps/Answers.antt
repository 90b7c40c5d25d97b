use Rattle.std.proofs.Common.{◌/◌, refl, subst, IfSome}
use Rattle.ff_elem.specs.Elem.{elem_of}
use Rattle.ff_data.specs.Systems.{IsExpression}
use Rattle.ff_describe.specs.Described.{frame_of}
use Rattle.ff_describe.proofs.systems.express_by_steps.Goals as goal

pub express_at-requires : goal.express_at-requires
express_at-requires g c = record {
  functions = c.requires.functions;
  w = c.requires.w;
  degree = c.loop-degree.invariant.within;
}

pub returns-in-Some-clause-some : goal.returns-in-Some-clause-some
returns-in-Some-clause-some g c =
    let L = g.K.Ring.lawful c.args.alg.now.k in
    let f = c.args.alg.now.f in
    let s = c.args.functions.now in
    subst (λ o. IfSome o (IsExpression L f (frame_of s) (elem_of L f c.args.w.now)
    (c.args.limit / s.e) c.args.limit)) c.in-Some.is c.in_ok-coords.ensures.some

pub returns-clause-none : goal.returns-clause-none
returns-clause-none g c = c.express_at-2.ensures.none refl
