use Rattle.std.proofs.Common.{length, subst, IfOk}
use Rattle.ff_ring.specs.Affine.{affine_at}
use Rattle.ff_ring.specs.Entries.{entry_at, AreEntries}
use Rattle.ff_match.proofs.shapes.shifted.Goals as goal

pub returns : goal.returns
returns g c =
    let F = g.K.Ring.elements c.args.k.now in
    subst (λ t. IfOk c.affine_each.result (AreEntries F (length t)
    (λ i. affine_at F c.args.alpha c.args.beta (entry_at F t i)))) c.rows.ensures
    c.affine_each.ensures
