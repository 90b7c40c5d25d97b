use Rattle.std.proofs.Common.{◌≡◌, length, sym, subst}
use Rattle.ff_theory.specs.Values.{polys_over}
use Rattle.ff_theory.proofs.Results.{ok_map}
use Rattle.ff_ring.specs.Entries.{entry_at, AreEntries}
use Rattle.ff_ring.specs.Ring.{product, ring_in, element_in}
use Rattle.ff_ring.proofs.RingElements.{plus-product}
use Rattle.ff_ring.proofs.shift.plus_ring_product.Goals as goal

pub returns-clause-value : goal.returns-clause-value
returns-clause-value g c =
    let F = g.K.Ring.elements c.args.k.now in
    let L = g.K.Ring.lawful c.args.k.now in
    let P = polys_over F in
    let s = c.args.s.now in
    let T = ring_in F s in
    let h = c.args.h.now in
    let a = c.args.a.now in
    let b = c.args.b.now in
    let y = c.deref.result.now in
    ok_map (λ (r : _). AreEntries F (length h)
    (λ l. P.add (entry_at F h l) (entry_at F y l)) r.items)
    (λ (r : _). element_in F s r.items ≡
    T.add (element_in F s h) (T.mul (element_in F s a) (element_in F s b)))
    c.ring_add.result
    (λ r v. plus-product F L s a b h y r.items (length h) (sym c.requires.table.weights)
    c.requires.h.count (subst (AreEntries F s.e (product F s a b)) (sym c.deref.ensures.value)
    c.in_ok-product.ensures) v) c.ring_add.ensures
