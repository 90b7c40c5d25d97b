use Rattle.std.proofs.Common.{sym, subst}
use Rattle.ff_list.specs.Lists.{IsTrueList}
use Rattle.ff_list.proofs.RisingLists.{insert-true}
use Rattle.ff_list.proofs.entry.insert_at.Goals as goal

pub returns : goal.returns
returns g c =
    let F = g.K.Ring.elements c.args.alg2.now.k in
    let L = g.K.Ring.lawful c.args.alg2.now.k in
    let f = c.args.alg1.now.f in
    let h = c.args.alg2.now.f in
    subst (IsTrueList L f h) (sym c.in_ok-insert.ensures.items)
    (insert-true L f h c.args.list.now.items c.args.entry c.args.i c.requires.list c.requires.entry
    c.requires.place)
