use Rattle.std.proofs.Common.{refl, ◌∙◌, ap, arith}
use Rattle.ff_theory.specs.Values.{poly_of}
use Rattle.ff_ring.specs.Affine.{affine_at}
use Rattle.ff_ring.specs.Entries.{entry_at}
use Rattle.ff_ring.proofs.EntryLemmas.{entries-push, entry-read}
use Rattle.ff_ring.proofs.line.affine_each.Goals as goal

pub loop-i-preserved : goal.loop-i-preserved
loop-i-preserved g c =
    let F = g.K.Ring.elements c.args.k.now in
    let list = c.args.list.now in
    let i = c.loop-i.i in
    let at = affine_at F c.args.alpha c.args.beta in
    entries-push F (λ j. at (entry_at F list j)) c.loop-i.items.items
    c.in_ok-affine.field-0 c.push.new.self.items i _ c.in_ok-push.ensures.items refl
    c.loop-i.invariant c.in_ok-affine.ensures.poly
    (c.in_ok-affine.ensures.value ∙ ap at
    (ap (poly_of F) c.index-list-i.is ∙ entry-read F list i c.index-list-i.result
    (omega (arith, c.loop-i-test.true))))
