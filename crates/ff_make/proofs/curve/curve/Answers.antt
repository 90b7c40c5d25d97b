use Rattle.std.proofs.Common.{◌≡◌, ◌∙◌, ap, ap₂}
use Rattle.ff_theory.proofs.Results.{ok_both}
use Rattle.ff_theory.specs.Planes.{row_of}
use Rattle.ff_theory.specs.Values.{plane_of, planes_over, polys_over, IsPlane}
use Rattle.ff_poly.specs.Limits.{IsEquation}
use Rattle.ff_make.proofs.Sizes.{curve_is_equation}
use Rattle.ff_make.proofs.curve.curve.Goals as goal

pub returns-clause-equation : goal.returns-clause-equation
returns-clause-equation g c =
    let k = c.args.k.now in
    let F = g.K.Ring.elements k in
    let L = g.K.Ring.lawful k in
    let Q = planes_over F in
    let left = c.in_ok-left in
    let right = c.in_ok-right in
    ok_both (λ r. IsPlane F r)
    (λ r. plane_of F r ≡ Q.add (plane_of F left.left) (plane_of F right.right))
    (λ r. IsEquation F r) c.add.result
    (λ r p e. curve_is_equation F L r c.args.h (F.value c.args.s) c.args.m p
    c.requires.short c.requires.few
    (e ∙ ap₂ Q.add left.ensures.value (right.ensures.value
    ∙ ap (λ t. row_of F.ring ((polys_over F).neg t)) c.in_ok-right_side_of.ensures.value)))
    c.add.ensures.plane c.add.ensures.value
