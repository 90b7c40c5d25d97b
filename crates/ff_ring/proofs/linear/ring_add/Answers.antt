use Rattle.std.proofs.Common.{refl, ◌∙◌, ap, ap₂, arith}
use Rattle.ff_theory.specs.Values.{poly_of, polys_over}
use Rattle.ff_ring.specs.Entries.{entry_at}
use Rattle.ff_ring.proofs.EntryLemmas.{entries-push, entry-read}
use Rattle.ff_ring.proofs.linear.ring_add.Goals as goal

pub loop-l-preserved : goal.loop-l-preserved
loop-l-preserved g c =
    let F = g.K.Ring.elements c.args.k.now in
    let P = polys_over F in
    let a = c.args.a.now in
    let b = c.args.b.now in
    let l = c.loop-l.l in
    entries-push F (λ j. P.add (entry_at F a j) (entry_at F b j)) c.loop-l.sums.items
    c.in_ok-add.field-0 c.push.new.self.items l _ c.in_ok-push.ensures.items refl
    c.loop-l.invariant c.in_ok-add.ensures.poly
    (c.in_ok-add.ensures.value ∙ ap₂ P.add
    (ap (poly_of F) c.index-a-l.is ∙ entry-read F a l c.index-a-l.result
    (omega (arith, c.loop-l-test.true)))
    (ap (poly_of F) c.index-b-l.is ∙ entry-read F b l c.index-b-l.result
    (omega (arith, c.loop-l-test.true, c.requires.count))))
