use Rattle.std.proofs.Common.{◌∙◌, ap}
use Rattle.ff_theory.specs.Lawful.{lawful_field}
use Rattle.ff_theory.specs.Values.{plane_of}
use Rattle.ff_theory.specs.Algebra.{value_of}
use Rattle.ff_theory.proofs.Results.{ok_map}
use Rattle.ff_elem.proofs.algebra.Alg.from_rows.Goals as goal

pub returns-clause-value : goal.returns-clause-value
returns-clause-value g c =
    let F = g.K.Ring.elements c.args.self.now.k in
    let L = g.K.Ring.lawful c.args.self.now.k in
    ok_map _ _ c.from_plane.result
    (λ r h. h ∙ ap (value_of (lawful_field L) (plane_of F c.args.self.now.f))
    c.from_vec-num.ensures.value) c.from_plane.ensures.value
