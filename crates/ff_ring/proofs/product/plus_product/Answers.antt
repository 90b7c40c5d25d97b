use Rattle.std.proofs.Common.{◌≡◌, List, ℕ, ◌∙◌, ap, sym, length, arith, [], subst}
use Rattle.std.proofs.Common.{nat_eq}
use Rattle.ff_theory.specs.Values.{poly_of, polys_over}
use Rattle.ff_theory.proofs.Results.{ok_map}
use Rattle.ff_ring.specs.Entries.{entry_at, AreEntries}
use Rattle.ff_ring.specs.Ring.{plus_basis_product_at, plus_product_at}
use Rattle.ff_ring.proofs.EntryLemmas.{entries-same, no-poly-is, empty-list}
use Rattle.ff_ring.proofs.ProductLemmas.{plus-nothing, plus-scaled}
use Rattle.ff_ring.proofs.product.plus_product.Goals as goal

pub returns-then-is_zero : goal.returns-then-is_zero
returns-then-is_zero g c =
    let F = g.K.Ring.elements c.args.k.now in
    let L = g.K.Ring.lawful c.args.k.now in
    plus-nothing F L c.args.s.now c.args.h.items c.args.b.now c.args.i (poly_of F c.args.p.now)
    (no-poly-is F c.args.p.now (empty-list c.args.p.now
    (sym c.is_zero.ensures ∙ c.if-is_zero.true))) c.requires.h

pub returns : goal.returns
returns g c =
    let F = g.K.Ring.elements c.args.k.now in
    let L = g.K.Ring.lawful c.args.k.now in
    let s = c.args.s.now in
    let h = c.args.h.items in
    let b = c.args.b.now in
    let p = poly_of F c.args.p.now in
    let y = c.deref-2.result.now in
    ok_map (λ (r : _). AreEntries F s.e
    (plus_basis_product_at F s c.deref.result.now c.args.i y) r.items)
    (λ (r : _). AreEntries F s.e (plus_product_at F s h c.args.i p b) r.items)
    c.plus_basis_product.result
    (λ r a. entries-same F (plus_basis_product_at F s c.deref.result.now c.args.i y)
    (plus_product_at F s h c.args.i p b) r.items s.e
    (λ l q. ap (λ t. plus_basis_product_at F s t c.args.i y l) c.deref.ensures.value
    ∙ plus-scaled F L s h b y c.args.i p (length b) c.requires.b.count
    (subst (AreEntries F (length b) (λ l. (polys_over F).mul p (entry_at F b l)))
    (sym c.deref-2.ensures.value) c.in_ok-y.ensures) l q) a) c.plus_basis_product.ensures
