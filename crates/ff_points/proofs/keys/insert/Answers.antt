use Rattle.std.proofs.Common.{IfSome, IfNone, subst}
use Rattle.ff_points.specs.PointLists.{BelongsAt, HasKeyOf}
use Rattle.ff_points.proofs.PointListLemmas.{same_with, inserted_with}
use Rattle.ff_points.proofs.PointKeys.{has_key}
use Rattle.ff_points.proofs.keys.insert.Goals as goal

pub returns-in-None : goal.returns-in-None
returns-in-None g c =
    let F = g.K.Ring.elements c.args.k.now in
    let L = g.K.Ring.lawful c.args.k.now in
    let p = c.args.p in
    let list = c.args.list.now.items in
    same_with F list p (has_key F L.finite.at_index (g.met.K.Ring.one_value c.args.k.now) _ list p
    c.requires.p c.requires.list c.requires.chart (subst (λ l. HasKeyOf F l p)
    c.deref.ensures.value (subst (λ o. IfNone o (HasKeyOf F c.deref.result.now p)) c.in-None.is
    c.place.ensures.none)))

pub returns-in_ok-insert-in-Some : goal.returns-in_ok-insert-in-Some
returns-in_ok-insert-in-Some g c =
    let F = g.K.Ring.elements c.args.k.now in
    let p = c.args.p in
    inserted_with F c.args.list.now.items c.insert.new.self.items c.in-Some.i p
    (subst (λ l. BelongsAt F l p c.in-Some.i) c.deref.ensures.value
    (subst (λ o. IfSome o (BelongsAt F c.deref.result.now p)) c.in-Some.is c.place.ensures.some))
    c.in_ok-insert-in-Some.ensures.items
