use Rattle.std.proofs.Common.{get_or, sym, ◌∙◌, ap}
use Rattle.std.specs.Vec.{with_items}
use Rattle.std.proofs.lemmas.List.{with_items_is}
use Rattle.ff_theory.specs.Monomial.{monomial}
use Rattle.ff_theory.specs.Values.{poly_of, polys_over}
use Rattle.ff_theory.proofs.Poly.{polynomial_laws}
use Rattle.ff_relation.proofs.SplitLemmas.{rows-one, rows-at}
use Rattle.ff_relation.proofs.reduce.add_factor.Goals as goal

pub returns-clause-value : goal.returns-clause-value
returns-clause-value g c = λ i q.
    let F = g.K.Ring.elements c.args.k.now in
    let L = g.K.Ring.lawful c.args.k.now in
    let P = polys_over F in
    let rows = c.args.rows.now in
    let j = c.args.j in
    let x = c.index-rows-j.result in
    let m = monomial F.ring (F.value c.args.c) c.args.at in
    rows-one F (polynomial_laws F.ring L.laws L.tests) rows j
    (with_items (get_or rows j x) c.add_at.new.row) m c.requires.j
    (ap (poly_of F) (with_items_is (get_or rows j x) c.add_at.new.row
    (c.add_at.ensures.vector.len ∙ c.deref_mut.ensures.len))
    ∙ c.add_at.ensures.value
    ∙ ap (λ t. P.add (poly_of F t) m) c.deref_mut.ensures.value
    ∙ ap (λ t. P.add t m) (sym (rows-at F rows j x c.requires.j))) i
