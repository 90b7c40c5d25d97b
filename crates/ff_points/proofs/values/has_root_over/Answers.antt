use Rattle.std.proofs.Common.{map, ◌∙◌, ap}
use Rattle.ff_points.proofs.RootLemmas.{root_of_values}
use Rattle.ff_points.proofs.values.has_root_over.Goals as goal

pub returns : goal.returns
returns g c t root =
    let F = g.K.Ring.elements c.args.k.now in
    let L = g.K.Ring.lawful c.args.k.now in
    c.has_root.ensures (F.value t) (root_of_values F L c.args.rows.now c.args.a t c.deref.result.now
    (ap (map F.value) c.deref.ensures.value ∙ c.in_ok-coeffs.ensures.value) root)
