use Rattle.std.proofs.Common.{[], map, sym, ◌∙◌, ap}
use Rattle.std.proofs.lemmas.List.{get_or_default}
use Rattle.ff_theory.specs.Poly.{coeff}
use Rattle.ff_theory.specs.Values.{poly_of}
use Rattle.ff_lattice.proofs.PlaneVectors.{entry_at, entry_past}
use Rattle.ff_lattice.proofs.Remainders.{poly_at}
use Rattle.ff_lattice.proofs.vectors.entry.Goals as goal

pub returns-then-i-rows-clause-value : goal.returns-then-i-rows-clause-value
returns-then-i-rows-clause-value g c =
    let F = g.K.Ring.elements c.args.k.now in
    let L = g.K.Ring.lawful c.args.k.now in
    let row = c.index-rows-i.result in
    let rows = c.args.rows.now in
    let i = c.args.i in
    let j = c.args.j in
    c.coeff.ensures.value ∙ sym (poly_at F.ring L.laws L.tests (map F.value row) j)
    ∙ ap (λ p. coeff F.ring (poly_of F p).coeffs j)
    (c.index-rows-i.is ∙ get_or_default rows i row [] c.if-i-rows.true)
    ∙ sym (entry_at L rows i j)

pub returns-else-i-rows-clause-value : goal.returns-else-i-rows-clause-value
returns-else-i-rows-clause-value g c =
    c.zero.ensures.value ∙ sym (entry_past (g.K.Ring.lawful c.args.k.now) c.args.rows.now c.args.i
    c.args.j c.if-i-rows.false)
