use Rattle.std.proofs.Common.{refl, ◌∙◌, ap, ap₂, arith}
use Rattle.ff_theory.specs.Values.{poly_of, polys_over}
use Rattle.ff_ring.specs.Entries.{entry_at}
use Rattle.ff_ring.proofs.EntryLemmas.{entries-push, entry-read}
use Rattle.ff_ring.proofs.linear.ring_scale.Goals as goal

pub loop-l-preserved : goal.loop-l-preserved
loop-l-preserved g c =
    let F = g.K.Ring.elements c.args.k.now in
    let P = polys_over F in
    let a = c.args.a.now in
    let l = c.loop-l.l in
    entries-push F (λ j. P.mul (poly_of F c.args.p.now) (entry_at F a j)) c.loop-l.products.items
    c.in_ok-mul.field-0 c.push.new.self.items l _ c.in_ok-push.ensures.items refl
    c.loop-l.invariant c.in_ok-mul.ensures.poly
    (c.in_ok-mul.ensures.value ∙ ap (P.mul (poly_of F c.args.p.now))
    (ap (poly_of F) c.index-a-l.is ∙ entry-read F a l c.index-a-l.result
    (omega (arith, c.loop-l-test.true))))
