use Rattle.std.proofs.Common.{ℕ, refl, sym, ◌∙◌, ap}
use Rattle.ff_theory.specs.Values.{poly_of}
use Rattle.ff_lin.specs.Space.{rows_of}
use Rattle.ff_ring.specs.Entries.{entry_at}
use Rattle.std.specs.Global.{Vec}
use Rattle.ff_ring.proofs.EntryLemmas.{entries-push}
use Rattle.ff_relation.proofs.SplitLemmas.{rows-at}
use Rattle.ff_relation.proofs.reduce.polys.Goals as goal

pub loop-i-preserved : goal.loop-i-preserved
loop-i-preserved g c =
    let F = g.K.Ring.elements c.args.k.now in
    let L = g.K.Ring.lawful c.args.k.now in
    let rows = c.args.rows.now in
    let i = c.loop-i.i in
    entries-push F (entry_at F (rows_of rows)) c.loop-i.items.items c.in_ok-from_coeffs.field-0
    c.push.new.self.items i _ c.in_ok-push.ensures.items refl c.loop-i.invariant
    c.in_ok-from_coeffs.ensures.poly
    (c.in_ok-from_coeffs.ensures.value ∙ ap (poly_of F) (c.deref.ensures.value
    ∙ ap (λ (v : Vec ℕ). v.items) c.index-rows-i.is)
    ∙ sym (rows-at F rows i c.index-rows-i.result c.loop-i-test.true))
