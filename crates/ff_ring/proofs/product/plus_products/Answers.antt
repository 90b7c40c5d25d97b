use Rattle.std.proofs.Common.{◌≡◌, ◌+◌, ◌≤◌, refl, ◌∙◌, ap, arith, All}
use Rattle.ff_theory.specs.Values.{poly_of, polys_over, x_size}
use Rattle.ff_ring.specs.Entries.{entry_at}
use Rattle.ff_ring.specs.Ring.{basis_product}
use Rattle.ff_ring.proofs.EntryLemmas.{entries-push, entry-read}
use Rattle.ff_ring.proofs.product.plus_products.Goals as goal

pub plus_coordinate-requires-clause-room : goal.plus_coordinate-requires-clause-room
plus_coordinate-requires-clause-room g c =
    λ k d h. omega (arith, c.greatest_width.ensures k d h, c.width.ensures, c.in_ok-n.ensures)

pub loop-l-preserved : goal.loop-l-preserved
loop-l-preserved g c =
    let F = g.K.Ring.elements c.args.k.now in
    let P = polys_over F in
    let h = c.args.h.now in
    let l = c.loop-l.l in
    let product = basis_product F c.args.products.now c.args.y.now in
    entries-push F (λ j. P.add (entry_at F h j) (product j)) c.loop-l.sum.items
    c.in_ok-plus_coordinate.field-0 c.push.new.self.items l _ c.in_ok-push.ensures.items refl
    c.loop-l.invariant c.in_ok-plus_coordinate.ensures.poly
    (c.in_ok-plus_coordinate.ensures.value ∙ ap (λ t. P.add t (product l))
    (ap (poly_of F) c.index-h-l.is ∙ entry-read F h l c.index-h-l.result
    (omega (arith, c.loop-l-test.true))))
