use Rattle.std.proofs.Common.{◌+◌, ◌-◌, take, drop, refl}
use Rattle.ff_theory.proofs.Results.{ok_map}
use Rattle.ff_lattice.proofs.PlaneVectors.{part_of_list}
use Rattle.ff_lattice.proofs.vectors.part.Goals as goal

pub returns-clause-value : goal.returns-clause-value
returns-clause-value g c =
    let at = c.args.at in
    let l = c.args.l in
    let v = c.args.v.now in
    ok_map _ _ c.from_coeffs.result
    (λ r h. part_of_list (g.K.Ring.lawful c.args.k.now) v (take (at + l - at) (drop at v)) r at l
    c.requires.room refl h) c.from_coeffs.ensures.value
