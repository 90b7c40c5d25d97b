use Rattle.std.proofs.Common.{◌≡◌, List, ℕ, ◌∙◌, ap, sym, length, subst, refl}
use Rattle.ff_theory.specs.Values.{poly_of, polys_over}
use Rattle.ff_theory.proofs.Results.{ok_map}
use Rattle.ff_ring.specs.Entries.{entry_at, AreEntries}
use Rattle.ff_ring.proofs.EntryLemmas.{no-poly-is, empty-list}
use Rattle.ff_ring.proofs.LineLemmas.{plus-zero, plus-multiple}
use Rattle.ff_ring.proofs.sum.plus_multiple.Goals as goal

pub returns-then-is_zero : goal.returns-then-is_zero
returns-then-is_zero g c =
    let F = g.K.Ring.elements c.args.k.now in
    let L = g.K.Ring.lawful c.args.k.now in
    plus-zero F L c.args.h.items c.args.a.now (poly_of F c.args.p.now)
    (no-poly-is F c.args.p.now (empty-list c.args.p.now
    (sym c.is_zero.ensures ∙ c.if-is_zero.true))) c.requires.h

pub returns : goal.returns
returns g c =
    let F = g.K.Ring.elements c.args.k.now in
    let L = g.K.Ring.lawful c.args.k.now in
    let P = polys_over F in
    let h = c.args.h.items in
    let a = c.args.a.now in
    let p = poly_of F c.args.p.now in
    let sum = λ (x y : List (List ℕ)) (l : ℕ). P.add (entry_at F x l) (entry_at F y l) in
    let x = c.deref.result.now in
    let y = c.deref-2.result.now in
    ok_map (λ (r : _). AreEntries F (length x) (sum x y) r.items)
    (λ (r : _). AreEntries F (length h) (λ l. P.add (entry_at F h l) (P.mul p (entry_at F a l)))
    r.items) c.ring_add.result
    (λ r v. plus-multiple F L h a y r.items p (length a) (length x) c.requires.count
    (ap length c.deref.ensures.value)
    (subst (AreEntries F (length a) (λ l. P.mul p (entry_at F a l))) (sym c.deref-2.ensures.value)
    c.in_ok-product.ensures)
    (subst (λ t. AreEntries F (length x) (sum t y) r.items) c.deref.ensures.value v))
    c.ring_add.ensures
