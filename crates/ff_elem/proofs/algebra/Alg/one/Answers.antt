use Rattle.std.proofs.Common.{◌∙◌, ap}
use Rattle.ff_theory.proofs.Results.{ok_map}
use Rattle.ff_elem.specs.Elem.{plane_in}
use Rattle.ff_elem.proofs.Quotients.{one-rows}
use Rattle.ff_elem.proofs.RowLemmas.{single-polys}
use Rattle.ff_elem.proofs.algebra.Alg.one.Goals as goal

pub from_rows-requires : goal.from_rows-requires
from_rows-requires g c = single-polys (g.K.Ring.elements c.args.self.now.k) c.in_ok-rows.rows.items
    c.in_ok-one.one c.in_ok-rows.ensures c.in_ok-one.ensures.poly

pub returns-clause-value : goal.returns-clause-value
returns-clause-value g c =
    let F = g.K.Ring.elements c.args.self.now.k in
    let L = g.K.Ring.lawful c.args.self.now.k in
    let f = c.args.self.now.f in
    ok_map _ _ c.from_rows.result
    (λ r h. h ∙ ap (plane_in L f) c.in_ok-rows.ensures
    ∙ one-rows F L f c.in_ok-one.one c.in_ok-one.ensures.value) c.from_rows.ensures.value
