use Rattle.std.proofs.Common.{◌≡◌, ◌∙◌, length, sym}
use Rattle.ff_theory.specs.Values.{poly_of}
use Rattle.ff_root.proofs.StateLemmas.{sum-monomial}
use Rattle.ff_root.proofs.state.plus_monomial.Goals as goal

pub returns-clause-value : goal.returns-clause-value
returns-clause-value g c =
    let F = g.K.Ring.elements c.args.k.now in
    let L = g.K.Ring.lawful c.args.k.now in
    sum-monomial F L c.args.s.now c.args.a.now c.args.sum.now _ (poly_of F c.in_ok-term.term)
    (length c.args.sum.now) (c.requires.sum.count ∙ sym c.requires.table.weights)
    c.in_ok-term.ensures.value c.in_ok-plus_at.ensures
