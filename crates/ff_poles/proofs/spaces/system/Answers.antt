use Rattle.std.proofs.Common.{◌≡◌, ◌≤◌, ◌⊎◌, inl, inr, ⊎_elim, length, subst, arith, IfNone}
use Rattle.ff_poles.specs.Spaces.{HasNoIndex}
use Rattle.ff_poles.proofs.SpaceSystems.{first_none, class_none}
use Rattle.ff_poles.proofs.spaces.system.Goals as goal

pub returns-then-e-eq0-clause-exact : goal.returns-then-e-eq0-clause-exact
returns-then-e-eq0-clause-exact g c = λ o p other at are.
    let F = g.K.Ring.elements c.args.alg.now.k in
    let L = g.K.Ring.lawful c.args.alg.now.k in
    let f = c.args.alg.now.f in
    let spaces = c.args.spaces.now in
    let e = c.first_number-e.result in
    let past : (e ≡ 0) ⊎ (length spaces ≤ e) = ⊎_elim (λ a. inl a)
    (λ b. inr (let k = b.1 in omega (arith, k))) c.then-e-eq0.either in
    first_none F L f c.args.alg.now.plane c.args.alg.now.has_y o p other at spaces are e past
    c.first_number-e.ensures.rises c.first_number-e.ensures.least

pub returns-in-None-clause-exact : goal.returns-in-None-clause-exact
returns-in-None-clause-exact g c = λ o p other at are.
    let F = g.K.Ring.elements c.args.alg.now.k in
    let L = g.K.Ring.lawful c.args.alg.now.k in
    let f = c.args.alg.now.f in
    let spaces = c.args.spaces.now in
    let e = c.first_number-e.result in
    let few = c.if-e-spaces.false in
    class_none F L f c.args.alg.now.plane c.args.alg.now.has_y o p other at spaces are e
    (omega (arith, few)) (c.first_number-e.ensures.rises (omega (arith, few)))
    c.first_number-e.ensures.least (subst (λ o. IfNone o (HasNoIndex spaces e)) c.in-None.is
    c.in_ok-least_numbers.ensures.none)
