use Rattle.std.proofs.Common.{length, subst}
use Rattle.ff_poles.specs.Spaces.{IsFunctionWhere}
use Rattle.ff_poles.proofs.SpaceSystems.{first_has}
use Rattle.ff_poles.proofs.spaces.with_numbers.Goals as goal

pub returns-in-None-clause-exact : goal.returns-in-None-clause-exact
returns-in-None-clause-exact g c = λ o p other at are h.
    let F = g.K.Ring.elements c.args.alg.now.k in
    let L = g.K.Ring.lawful c.args.alg.now.k in
    let f = c.args.alg.now.f in
    let spaces = c.args.spaces.now in
    let numbers = c.args.numbers.now in
    absurd (first_has F L f c.args.alg.now.plane c.args.alg.now.has_y o p other at spaces are
    numbers c.requires.numbers c.requires.within c.requires.few
    (subst (IsFunctionWhere L f spaces (length numbers)) c.in-None.is
    c.in_ok-function.ensures.exact))
