use Rattle.std.proofs.Common.{◌-◌, pred, length, arith}
use Rattle.ff_order.proofs.PowerRows.{width_positive}
use Rattle.ff_order.proofs.images.first_row.Goals as goal

pub unit-requires : goal.unit-requires
unit-requires g c =
    let two = c.args.alg.now.has_y in
    width_positive (length c.args.alg.now.f - 1) (pred (length c.args.top.now)) c.in_ok-width.width
    c.in_ok-width.ensures (omega (arith, two)) (omega (arith, c.requires))
