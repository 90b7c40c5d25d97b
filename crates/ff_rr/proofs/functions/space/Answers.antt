use Rattle.std.proofs.Common.{refl}
use Rattle.ff_data.specs.declared.point.RRSpace.{RRSpace}
use Rattle.ff_rr.proofs.FunctionLemmas.{space-at}
use Rattle.ff_rr.proofs.functions.space.Goals as goal

pub returns-clause-at_point : goal.returns-clause-at_point
returns-clause-at_point g c =
    let F = g.K.Ring.elements c.args.alg.now.k in
    let L = g.K.Ring.lawful c.args.alg.now.k in
    let m = c.args.pole.now in
    let s : RRSpace = record { j = m.j; basis = c.in_ok-items.items.items } in
    λ o h. space-at F L c.args.alg.now.f m c.args.other.now o h s refl c.in_ok-items.ensures
