use Rattle.std.proofs.Common.{List, ℕ, length, sym, subst, IfSome, IfNone}
use Rattle.ff_systems.specs.Places.{WritesProducts}
use Rattle.ff_describe.specs.Readings.{HasTriangleShape, AreSides}
use Rattle.ff_describe.specs.Described.{frame_of, IsTriangleOf}
use Rattle.ff_describe.proofs.TableLemmas.{sides-table}
use Rattle.ff_describe.proofs.tables.table_of.Goals as goal

pub sides-requires : goal.sides-requires
sides-requires g c =
    let L = g.K.Ring.lawful c.args.alg.now.k in
    let t : IsTriangleOf L c.args.alg.now.f (frame_of c.args.functions.now) c.in-Some.lists.items
    = subst (λ o. IfSome o (λ v. IsTriangleOf L c.args.alg.now.f (frame_of c.args.functions.now)
    v.items)) c.in-Some.is c.in_ok-triangle_of.ensures.some in
    subst HasTriangleShape (sym c.deref.ensures.value) t.shape

pub returns-in_ok-table-in-Some-clause-some : goal.returns-in_ok-table-in-Some-clause-some
returns-in_ok-table-in-Some-clause-some g c =
    let K = g.K.Ring.elements c.args.alg.now.k in
    let L = g.K.Ring.lawful c.args.alg.now.k in
    let f = c.args.alg.now.f in
    let s = frame_of c.args.functions.now in
    let lists = c.in-Some.lists.items in
    let table = c.in_ok-table-in-Some.table in
    sides-table K L f s lists table
    (subst (λ o. IfSome o (λ v. IsTriangleOf L f s v.items)) c.in-Some.is
    c.in_ok-triangle_of.ensures.some)
    (subst (λ (r : List (List (List (List ℕ)))). AreSides r (length r) table)
    c.deref.ensures.value c.in_ok-table-in-Some.ensures)

pub returns-in-None-clause-none : goal.returns-in-None-clause-none
returns-in-None-clause-none g c =
    let L = g.K.Ring.lawful c.args.alg.now.k in
    subst (λ o. IfNone o (¬ WritesProducts L c.args.alg.now.f (frame_of c.args.functions.now)))
    c.in-None.is c.in_ok-triangle_of.ensures.none
