use Rattle.ff_theory.proofs.Results.{ok_map}
use Rattle.ff_ring.specs.Ring.{element_in}
use Rattle.ff_relation.proofs.SplitLemmas.{split-start, sizes-within, levels-enough}
use Rattle.ff_relation.proofs.reduce.reduce.Goals as goal

pub returns-clause-exact : goal.returns-clause-exact
returns-clause-exact g c = λ w b.
    let F = g.K.Ring.elements c.args.k.now in
    let L = g.K.Ring.lawful c.args.k.now in
    let s = c.args.s.now in
    let rank = c.requires.table.weights in
    let h = c.args.c.now in
    let bound = c.in_ok-bound.bound in
    let n = c.in_ok-n.n in
    ok_map _ _ c.parts_of.result (λ r split. split (element_in F s h) 0
    (c.take_all.ensures.exact
    (levels-enough s.e bound n c.requires.table.positive c.in_ok-n.ensures) w b (element_in F s h)
    (split-start F L s rank b bound h _ _ c.requires.c c.in_ok-bound.ensures
    c.in_ok-rows.ensures.quotient
    (c.in_ok-rows.ensures.rest
    (sizes-within s h bound n c.requires.table.positive c.in_ok-n.ensures c.in_ok-bound.ensures)))))
    (c.parts_of.ensures.exact rank w b)
