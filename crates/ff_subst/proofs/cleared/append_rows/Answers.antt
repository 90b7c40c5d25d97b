use Rattle.std.proofs.Common.{ap, length, subst, sym, ◌∙◌}
use Rattle.ff_theory.specs.Values.{IsPlane}
use Rattle.ff_elem.proofs.RowLemmas.{pushed-each, pushed-length}
use Rattle.ff_subst.specs.Congruence.{ArePlanes}
use Rattle.ff_subst.specs.Cleared.{AreMultiplesBy}
use Rattle.ff_subst.proofs.ClearedLemmas.{appended-by}
use Rattle.ff_subst.proofs.cleared.append_rows.Goals as goal

pub returns-clause-count : goal.returns-clause-count
returns-clause-count g c =
    pushed-length c.list.inside.items.items c.from_vec-last.result _ _
    c.in_ok-push.ensures.items (ap length c.list.view_is ∙ c.in_ok-list.ensures.count)

pub returns-clause-each : goal.returns-clause-each
returns-clause-each g c =
    let K = g.K.Ring.elements c.args.k.now in
    pushed-each (IsPlane K) c.list.inside.items.items c.from_vec-last.result _
    c.in_ok-push.ensures.items
    (subst (ArePlanes K) (sym c.list.view_is) c.in_ok-list.ensures.each)
    c.from_vec-last.ensures.plane

pub returns-clause-appended : goal.returns-clause-appended
returns-clause-appended g c =
    let K = g.K.Ring.elements c.args.k.now in
    let L = g.K.Ring.lawful c.args.k.now in
    let planes = c.args.planes in
    appended-by K L c.args.c.now c.args.d.now planes c.list.inside.items.items _
    c.args.rows.now c.from_vec-last.result
    (subst (AreMultiplesBy K c.args.c.now planes) (sym c.list.view_is) c.in_ok-list.ensures.value)
    (ap length c.list.view_is ∙ c.in_ok-list.ensures.count) c.in_ok-push.ensures.items
    (c.from_vec-last.ensures.value ∙ c.in_ok-multiples.ensures.value)
