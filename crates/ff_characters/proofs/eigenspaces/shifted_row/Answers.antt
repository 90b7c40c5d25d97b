use Rattle.std.proofs.Common.{length, set, ◌∙◌, ap}
use Rattle.ff_theory.specs.Span.{product}
use Rattle.ff_theory.specs.Vector.{vector_of}
use Rattle.ff_characters.proofs.CharacterLemmas.{shifted-product}
use Rattle.ff_characters.proofs.eigenspaces.shifted_row.Goals as goal

pub returns-clause-value : goal.returns-clause-value
returns-clause-value g c v =
    let F = g.K.Ring.elements c.args.k.now in
    let row = c.args.row.now in
    let i = c.args.i in
    ap (λ r. product F.ring (length row) v (vector_of F (set r i c.sub.result)))
    c.in_ok-shifted.ensures.items
    ∙ shifted-product F (g.met.K.Ring.laws c.args.k.now)
    (g.met.K.Ring.tests c.args.k.now) row i c.sub.result (F.value c.args.c) v
    c.requires.index c.sub.ensures.value
