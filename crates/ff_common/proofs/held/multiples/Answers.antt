use Rattle.std.proofs.Common.{◌*◌, ◌-◌, length, ◌∙◌, ap, subst}
use Rattle.ff_theory.proofs.Results.{ok_both}
use Rattle.ff_data.specs.Orders.{slope_of}
use Rattle.ff_common.specs.Common.{HasShortRows}
use Rattle.ff_common.proofs.HeldSpaces.{multiples_are}
use Rattle.ff_common.proofs.held.multiples.Goals as goal

pub returns-in_ok-factors-in-Some : goal.returns-in_ok-factors-in-Some
returns-in_ok-factors-in-Some g c =
    let F = g.K.Ring.elements c.args.alg.now.k in
    let L = g.K.Ring.lawful c.args.alg.now.k in
    let w = c.args.w in
    let factors = c.in_ok-factors-in-Some.factors in
    let whole = subst (λ e. HasShortRows F c.in-Some.n w e factors) c.in_ok-e.ensures
    c.in_ok-factors-in-Some.ensures.whole in
    ok_both _ _ _ c.times_space.result
    (λ s h k. multiples_are F L c.args.alg.now.f c.args.alg.now.plane c.args.alg.now.has_y
    c.args.d.now c.requires.d w c.args.l c.requires.room factors s
    (subst (λ n. HasShortRows F n w (slope_of L c.args.alg.now.f) factors)
    (c.in-Some.ensures.1 ∙ ap (λ r. (length r - 1) * w) c.rows.ensures) whole) h k)
    c.times_space.ensures.space c.times_space.ensures.times
