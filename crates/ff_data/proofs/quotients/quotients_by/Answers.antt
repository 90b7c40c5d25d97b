use Rattle.std.proofs.Common.{subst}
use Rattle.ff_theory.specs.Values.{poly_of, plane_of}
use Rattle.ff_data.specs.Numerators.{AreQuotients}
use Rattle.ff_data.proofs.PlaneQuotients.{quotients_by_rows}
use Rattle.ff_data.proofs.quotients.quotients_by.Goals as goal

pub returns-clause-value : goal.returns-clause-value
returns-clause-value g c =
    let F = g.K.Ring.elements c.args.k.now in
    let L = g.K.Ring.lawful c.args.k.now in
    let by = c.args.by.now in
    let e = c.in_ok-rows.ensures in
    subst (λ xs. AreQuotients F (poly_of F by) (plane_of F xs) (plane_of F c.from_vec.result))
    c.rows.ensures (quotients_by_rows F L c.rows.result.now c.in_ok-rows.rows.items
    c.from_vec.result by c.requires.by c.requires.nonzero e.len e.value c.from_vec.ensures.value)
