use Rattle.std.proofs.Common.{◌≡◌, List, ℕ, length, sym, subst}
use Rattle.ff_theory.specs.Values.{poly_of, polys_over}
use Rattle.ff_theory.proofs.Results.{ok_map}
use Rattle.ff_ring.specs.Entries.{entry_at, AreEntries}
use Rattle.ff_ring.proofs.RingElements.{plus-monomial}
use Rattle.ff_ring.proofs.shift.plus_monomial_product.Goals as goal

pub returns-clause-value : goal.returns-clause-value
returns-clause-value g c =
    let F = g.K.Ring.elements c.args.k.now in
    let L = g.K.Ring.lawful c.args.k.now in
    let x = c.args.x.now in
    let f = poly_of F c.in_ok-factor.factor in
    plus-monomial F L c.args.s.now c.args.a.now c.args.h.now x c.deref.result.now _ f (length x)
    (sym c.requires.table.weights) c.requires.a.class c.requires.x.count
    c.in_ok-factor.ensures.value
    (subst (AreEntries F (length x) (λ l. (polys_over F).mul f (entry_at F x l)))
    (sym c.deref.ensures.value) c.in_ok-y.ensures)
    c.in_ok-plus_basis_product.ensures
