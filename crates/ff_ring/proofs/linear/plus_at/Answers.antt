use Rattle.std.proofs.Common.{◌≡◌, List, ℕ, ◌∙◌, ap, length, arith}
use Rattle.ff_theory.specs.Span.{unit_at}
use Rattle.ff_theory.specs.Values.{poly_of, polys_over}
use Rattle.ff_theory.proofs.Results.{ok_map}
use Rattle.ff_ring.specs.Entries.{entry_at, AreEntries}
use Rattle.ff_ring.proofs.EntryLemmas.{entries-same}
use Rattle.ff_ring.proofs.linear.plus_at.Goals as goal

pub returns : goal.returns
returns g c =
    let F = g.K.Ring.elements c.args.k.now in
    let P = polys_over F in
    let a = c.args.a.now in
    let i = c.args.i in
    let p = poly_of F c.args.p.now in
    let n = length a in
    let unit = c.in_ok-unit.unit.items in
    let x = c.deref.result.now in
    let term = c.in_ok-term.term.items in
    let y = c.deref-2.result.now in
    let u = c.in_ok-unit.ensures in
    let t = c.in_ok-term.ensures in
    ok_map (λ (r : _). AreEntries F n (λ l. P.add (entry_at F a l) (entry_at F y l)) r.items)
    (λ (r : _). AreEntries F n (λ l. P.add (entry_at F a l) (P.mul p (unit_at P i l))) r.items)
    c.ring_add.result
    (λ r h. entries-same F (λ l. P.add (entry_at F a l) (entry_at F y l))
    (λ l. P.add (entry_at F a l) (P.mul p (unit_at P i l))) r.items n
    (λ l q. ap (P.add (entry_at F a l)) (ap (λ b. entry_at F b l) c.deref-2.ensures.value
    ∙ t.value l (omega (arith, q, ap length c.deref.ensures.value, u.count))
    ∙ ap (P.mul p) (ap (λ b. entry_at F b l) c.deref.ensures.value ∙ u.value l q))) h)
    c.ring_add.ensures
