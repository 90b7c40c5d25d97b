use Rattle.std.proofs.Common.{◌∙◌, ap, subst}
use Rattle.ff_theory.proofs.Results.{ok_map}
use Rattle.ff_data.specs.declared.point.RRSpace.{RRSpace}
use Rattle.ff_poles.specs.Spaces.{IsPicked}
use Rattle.ff_poles.proofs.SpaceSystems.{one_where, picked_where}
use Rattle.ff_poles.proofs.spaces.function.Goals as goal

pub returns-then-m-eq0-clause-exact : goal.returns-then-m-eq0-clause-exact
returns-then-m-eq0-clause-exact g c =
    let F = g.K.Ring.elements c.args.alg.now.k in
    let L = g.K.Ring.lawful c.args.alg.now.k in
    one_where F L c.args.alg.now.f c.args.alg.now.plane c.args.alg.now.has_y c.args.spaces.now
    c.args.m c.if-m-eq0.true c.in_ok-one.one c.in_ok-one.ensures.value

pub returns-clause-exact : goal.returns-clause-exact
returns-clause-exact g c =
    let F = g.K.Ring.elements c.args.alg.now.k in
    let L = g.K.Ring.lawful c.args.alg.now.k in
    let f = c.args.alg.now.f in
    let low = c.index-spaces-m.result in
    let high = c.index-spaces-m-2.result in
    let a = c.deref.ensures.value ∙ ap (λ (s : RRSpace). s.basis) c.lower.view_is in
    let b = c.deref-2.ensures.value ∙ ap (λ (s : RRSpace). s.basis) c.upper.view_is in
    ok_map _ _ c.pick.result (λ r k. picked_where F L f c.args.alg.now.plane c.args.alg.now.has_y
    c.args.spaces.now c.args.m c.if-m-eq0.false c.requires.index low high c.index-spaces-m.is
    c.index-spaces-m-2.is r (subst (λ t. IsPicked L f low.basis t r) b
    (subst (λ t. IsPicked L f t c.deref-2.result.now r) a k))) c.pick.ensures.picked
