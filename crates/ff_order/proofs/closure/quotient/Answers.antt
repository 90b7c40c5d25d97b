use Rattle.std.proofs.Common.{sym, subst}
use Rattle.ff_theory.specs.Values.{poly_of, plane_of}
use Rattle.ff_lattice.specs.Residues.{IsMultiple}
use Rattle.ff_order.proofs.Closing.{multiple_rows}
use Rattle.ff_order.proofs.closure.quotient.Goals as goal

pub returns-in-Some-clause-value : goal.returns-in-Some-clause-value
returns-in-Some-clause-value g c =
    let F = g.K.Ring.elements c.args.k.now in
    let d = poly_of F c.args.d.now in
    let len = rw c.in-Some.is at c.in_ok-rows.ensures.len in
    let value = rw c.in-Some.is at c.in_ok-rows.ensures.value in
    subst (λ a. IsMultiple F.ring d (plane_of F a) (plane_of F c.from_vec.result)) c.rows.ensures
    (subst (λ q. IsMultiple F.ring d (plane_of F c.rows.result.now) q)
    (sym c.from_vec.ensures.value) (multiple_rows F (g.K.Ring.lawful c.args.k.now) d
    c.rows.result.now c.in-Some.rows.items len value))
