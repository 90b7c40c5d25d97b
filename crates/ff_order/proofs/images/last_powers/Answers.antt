use Rattle.std.proofs.Common.{◌≡◌, suc, pred, ◌-◌, ◌∙◌, ap, arith}
use Rattle.ff_theory.specs.Ring.{power}
use Rattle.ff_theory.specs.Values.{poly_of, polys_over}
use Rattle.ff_order.proofs.images.last_powers.Goals as goal

pub returns-clause-below_is : goal.returns-clause-below_is
returns-clause-below_is g c =
    let F = g.K.Ring.elements c.args.k.now in
    let n = c.characteristic.result in
    let e : n - 1 ≡ pred F.characteristic = omega (arith, c.characteristic.ensures) in
    c.in_ok-below.ensures.value ∙ ap (power (polys_over F) (poly_of F c.args.d.now)) e

pub returns-clause-top_is : goal.returns-clause-top_is
returns-clause-top_is g c =
    let F = g.K.Ring.elements c.args.k.now in
    let P = polys_over F in
    let d = poly_of F c.args.d.now in
    let n = c.characteristic.result in
    let p = (g.K.Ring.lawful c.args.k.now).finite.least.positive in
    let e : suc (n - 1) ≡ F.characteristic = omega (arith, c.characteristic.ensures, p) in
    c.in_ok-top.ensures.value ∙ ap (P.mul d) c.in_ok-below.ensures.value ∙ ap (power P d) e
