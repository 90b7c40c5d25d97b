use Rattle.std.proofs.Common.{◌≡◌, ◌+◌, ◌-◌, ◌/◌, sym, ◌∙◌, ap, arith}
use Rattle.std.proofs.Math.Nat.{add-div_right}
use Rattle.ff_poly.proofs.infinity.row_slope.Goals as goal

pub returns-else-len-le1 : goal.returns-else-len-le1
returns-else-len-le1 c =
    let e : c.args.len - 2 + c.args.below ≡ c.args.len - 1 + (c.args.below - 1) = omega
    (arith, c.requires.below, c.if-len-le1.false) in
    sym (add-div_right (c.args.len - 2) c.requires.below) ∙ ap (λ n. n / c.args.below) e
