use Rattle.std.proofs.Common.{◌≡◌, ◌-◌, length, subst, refl, IfSome}
use Rattle.ff_theory.proofs.Results.{ok_map}
use Rattle.ff_poles.specs.Spaces.{AreFunctionsWhere}
use Rattle.ff_poles.proofs.SpaceSystems.{numbers_where, numbers_have}
use Rattle.ff_poles.proofs.spaces.with_z.Goals as goal

pub returns-in-None-clause-exact : goal.returns-in-None-clause-exact
returns-in-None-clause-exact g c = λ o p other at are h.
    let F = g.K.Ring.elements c.args.alg.now.k in
    let L = g.K.Ring.lawful c.args.alg.now.k in
    let f = c.args.alg.now.f in
    let spaces = c.args.spaces.now in
    let numbers = c.args.numbers.now in
    absurd (numbers_have F L f c.args.alg.now.plane c.args.alg.now.has_y o p other at spaces are
    numbers c.requires.numbers c.requires.within c.requires.few
    (subst (AreFunctionsWhere L f spaces numbers) c.in-None.is c.in_ok-functions_for.ensures.exact))

pub returns-in-Some-clause-exact : goal.returns-in-Some-clause-exact
returns-in-Some-clause-exact g c =
    let F = g.K.Ring.elements c.args.alg.now.k in
    let L = g.K.Ring.lawful c.args.alg.now.k in
    let f = c.args.alg.now.f in
    let spaces = c.args.spaces.now in
    let numbers = c.args.numbers.now in
    let v = c.in-Some.b in
    ok_map _ _ c.described.result (λ r k. numbers_where F L f c.args.alg.now.plane
    c.args.alg.now.has_y spaces numbers c.requires.numbers c.requires.within c.requires.few c.args.z
    c.requires.pole v.items
    (subst (λ o. IfSome o (λ v. length v.items ≡ length numbers)) c.in-Some.is
    c.in_ok-functions_for.ensures.count)
    (subst (AreFunctionsWhere L f spaces numbers) c.in-Some.is c.in_ok-functions_for.ensures.exact)
    (length spaces - 1) refl r k) c.described.ensures.exact
