use Rattle.std.proofs.Common.{sym, subst, IfOk}
use Rattle.ff_frac.specs.Places.{IsModuleLattice}
use Rattle.ff_frac.proofs.module.modulus_and_space.Goals as goal

pub returns-then-j-eq0-clause-exact : goal.returns-then-j-eq0-clause-exact
returns-then-j-eq0-clause-exact g c place =
    let L = g.K.Ring.lawful c.args.alg.now.k in
    let f = c.args.alg.now.f in
    let o = c.args.order.now in
    let p = c.args.point.now in
    subst (λ j. IfOk c.own_module.result (λ r. IsModuleLattice L f o p j r.0 r.1))
    (sym c.if-j-eq0.true) c.own_module.ensures.same

pub returns-clause-exact : goal.returns-clause-exact
returns-clause-exact g c place = c.power_module.ensures.exact place
