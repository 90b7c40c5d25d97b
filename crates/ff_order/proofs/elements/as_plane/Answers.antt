use Rattle.std.proofs.Common.{◌∙◌, ap}
use Rattle.ff_theory.specs.Values.{plane_of}
use Rattle.ff_elem.proofs.RowLemmas.{single-polys}
use Rattle.ff_order.proofs.elements.as_plane.Goals as goal

pub from_vec-requires : goal.from_vec-requires
from_vec-requires g c = single-polys (g.K.Ring.elements c.args.k.now) c.in_ok-rows.rows.items
    c.args.p c.in_ok-rows.ensures c.requires

pub returns-clause-value : goal.returns-clause-value
returns-clause-value g c =
    let F = g.K.Ring.elements c.args.k.now in
    c.from_vec.ensures.value ∙ ap (plane_of F) c.in_ok-rows.ensures
