use Rattle.std.proofs.Common.{◌/◌, subst, IfSome, IfNone}
use Rattle.ff_elem.specs.Elem.{y_in}
use Rattle.ff_data.specs.Systems.{IsExpression}
use Rattle.ff_describe.specs.Described.{frame_of, IsWritten}
use Rattle.ff_describe.proofs.systems.with_x.Goals as goal

pub with_coords-requires : goal.with_coords-requires
with_coords-requires g c =
    let L = g.K.Ring.lawful c.args.alg.now.k in
    let f = c.args.alg.now.f in
    let functions = c.args.functions.now in
    let limit = c.args.limit in
    record {
      functions = c.requires.functions;
      x = c.requires.x;
      y = subst (λ o. IfSome o (IsExpression L f (frame_of functions) (y_in L f)
          (limit / functions.e) limit)) c.in-Some.is c.in_ok-express_y.ensures.some;
    }

pub returns-in-None-clause-none : goal.returns-in-None-clause-none
returns-in-None-clause-none g c w =
    let L = g.K.Ring.lawful c.args.alg.now.k in
    let f = c.args.alg.now.f in
    subst (λ o. IfNone o (¬ IsWritten L f c.args.limit c.args.functions.now (y_in L f)))
    c.in-None.is c.in_ok-express_y.ensures.none w.y
