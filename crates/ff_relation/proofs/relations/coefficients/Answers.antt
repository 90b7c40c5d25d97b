use Rattle.std.proofs.Common.{◌-◌, ◌<◌, [], length, ◌∙◌, ap, arith}
use Rattle.std.proofs.lemmas.List.{get_or_default}
use Rattle.ff_theory.specs.Values.{polys_over}
use Rattle.ff_theory.proofs.Results.{ok_map}
use Rattle.ff_ring.specs.Entries.{entry_at}
use Rattle.ff_ring.specs.Ring.{ring_in, element_in}
use Rattle.ff_relation.proofs.RelationLemmas.{split-relation}
use Rattle.ff_relation.proofs.relations.coefficients.Goals as goal

pub returns-clause-exact : goal.returns-clause-exact
returns-clause-exact g c = λ b.
    let F = g.K.Ring.elements c.args.k.now in
    let L = g.K.Ring.lawful c.args.k.now in
    let s = c.args.s.now in
    let w = element_in F s c.args.w.now in
    let list = c.args.p.now.list.items in
    let m = s.e - 1 in
    let inside : m < length list =
    omega (arith, c.requires.table.positive, c.requires.p.list.count) in
    ok_map _ _ c.negative.result (λ r v. split-relation F L s c.requires.table.weights b
    (element_in F s c.rows-2.result.now) c.in_ok-reduced.reduced.quotient
    c.in_ok-reduced.reduced.rest r m
    (omega (arith, c.requires.table.positive, c.requires.table.weights))
    (ap (element_in F s) c.rows-2.ensures ∙ c.in_ok-last.ensures.exact
    ∙ ap (λ t. (ring_in F s).mul t w) (ap (element_in F s) (c.rows.ensures ∙ c.index.ensures
    ∙ get_or_default list m c.index.result.now [] inside) ∙ b.powers m inside))
    (c.in_ok-reduced.ensures.exact w b)
    (λ l q. v l q ∙ ap (λ t. (polys_over F).neg (entry_at F t l)) c.rows-3.ensures))
    c.negative.ensures.value
