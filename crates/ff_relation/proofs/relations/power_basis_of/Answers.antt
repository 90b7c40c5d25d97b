use Rattle.std.proofs.Common.{length, sym, subst}
use Rattle.ff_table.specs.Powers.{IsPrimeTo}
use Rattle.ff_table.specs.Table.{Weighs}
use Rattle.ff_data.specs.Systems.{weight_at}
use Rattle.ff_ring.specs.Ring.{table_in, element_in}
use Rattle.ff_relation.proofs.RelationLemmas.{basis-heavy, basis-prime}
use Rattle.ff_relation.proofs.relations.power_basis_of.Goals as goal

pub returns-clause-exact : goal.returns-clause-exact
returns-clause-exact g c = λ rule basis difference.
    let F = g.K.Ring.elements c.args.k.now in
    let L = g.K.Ring.lawful c.args.k.now in
    let s = c.args.s.now in
    let S = table_in F s in
    let rank = c.requires.table.weights in
    let w = element_in F s c.args.w.now in
    let i = c.args.i in
    c.power_basis.ensures.exact rule w
    (subst (λ m. Weighs F.ring S w m) (sym c.weight_of.ensures)
    (subst (λ a. Weighs F.ring S a (weight_at s i)) (sym basis)
    (basis-heavy F L s rank rule i c.requires.i)))
    (subst (λ m. IsPrimeTo (length s.weights) m) (sym c.weight_of.ensures)
    (basis-prime F L s rank rule i difference))
    (c.in_ok-list.ensures.exact rule)
