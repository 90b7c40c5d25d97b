use Rattle.std.proofs.Common.{IfErr, subst}
use Rattle.ff_list.specs.Lists.{IsRefused}
use Rattle.ff_list.proofs.starts.kept.Goals as goal

pub returns-in-Ok-clause-refused : goal.returns-in-Ok-clause-refused
returns-in-Ok-clause-refused g c =
    let r = c.kept_from.result in
    let second = c.args.second.now in
    subst (λ f. IfErr r (IsRefused (g.K.Ring.lawful c.args.k.now) f second))
    c.in-Ok.ensures.equation
    (subst (λ k. IfErr r (IsRefused (g.K.Ring.lawful k) c.in-Ok.one.alg.f second))
    c.in-Ok.ensures.field c.kept_from.ensures.refused)
