use Rattle.std.proofs.Common.{◌∙◌, ap}
use Rattle.ff_root.specs.States.{states_in}
use Rattle.ff_root.proofs.StateLemmas.{roots-are, nodes-are}
use Rattle.ff_root.proofs.search.roots.Goals as goal

pub returns-clause-exact : goal.returns-clause-exact
returns-clause-exact g c = λ rule.
    let F = g.K.Ring.elements c.args.alg2.now.k in
    let L = g.K.Ring.lawful c.args.alg2.now.k in
    let s = c.args.s2.now in
    roots-are F L s rule c.args.coeffs.now c.args.weight c.in_ok-first.first.items
    c.deref.result.now c.in_ok-finished.field-0.items c.in_ok-first.ensures.value
    (ap (states_in F s) c.deref.ensures.value ∙ c.in_ok-states.ensures.value rule)
    (c.in_ok-finished.ensures.value rule)

pub returns-clause-count : goal.returns-clause-count
returns-clause-count g c = λ rule.
    let F = g.K.Ring.elements c.args.alg2.now.k in
    let L = g.K.Ring.lawful c.args.alg2.now.k in
    nodes-are F L c.args.s2.now rule c.args.coeffs.now c.args.weight c.args.nodes.now
    c.search.new.nodes c.in_ok-first.first.items c.in_ok-first.ensures.value
    (c.search.ensures.count rule)

pub returns-in_err-states-clause-count : goal.returns-in_err-states-clause-count
returns-in_err-states-clause-count g c = λ rule.
    let F = g.K.Ring.elements c.args.alg2.now.k in
    let L = g.K.Ring.lawful c.args.alg2.now.k in
    nodes-are F L c.args.s2.now rule c.args.coeffs.now c.args.weight c.args.nodes.now
    c.search.new.nodes c.in_ok-first.first.items c.in_ok-first.ensures.value
    (c.search.ensures.count rule)

pub returns-in_err-finished-clause-count : goal.returns-in_err-finished-clause-count
returns-in_err-finished-clause-count g c = λ rule.
    let F = g.K.Ring.elements c.args.alg2.now.k in
    let L = g.K.Ring.lawful c.args.alg2.now.k in
    nodes-are F L c.args.s2.now rule c.args.coeffs.now c.args.weight c.args.nodes.now
    c.search.new.nodes c.in_ok-first.first.items c.in_ok-first.ensures.value
    (c.search.ensures.count rule)
