use Rattle.std.proofs.Common.{subst}
use Rattle.ff_table.specs.Powers.{IsRelation}
use Rattle.ff_ring.specs.Entries.{entry_at}
use Rattle.ff_ring.specs.Ring.{table_in, element_in}
use Rattle.ff_relation.specs.InRing.{PowersOf}
use Rattle.ff_relation.proofs.relations.relation_of.Goals as goal

pub returns-clause-exact : goal.returns-clause-exact
returns-clause-exact g c =
    let F = g.K.Ring.elements c.args.k.now in
    let s = c.args.s.now in
    subst (λ x. PowersOf F s (element_in F s x) c.args.p.now
    → IsRelation F.ring (table_in F s) (element_in F s x) (entry_at F c.in_ok-coeffs.coeffs))
    c.rows.ensures c.in_ok-coeffs.ensures.exact

pub returns-clause-back : goal.returns-clause-back
returns-clause-back g c = λ b.
    let F = g.K.Ring.elements c.args.k.now in
    let w = element_in F c.args.s.now c.args.w in
    c.in_ok-back.ensures.exact w b (c.in_ok-q.ensures.exact w b)
