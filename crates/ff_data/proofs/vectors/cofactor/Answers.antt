use Rattle.ff_theory.specs.Values.{poly_of}
use Rattle.ff_data.proofs.Denominators.{divisor-some, cofactor-some, cofactor-multiple}
use Rattle.ff_data.proofs.vectors.cofactor.Goals as goal

pub divide-requires-clause-nonzero : goal.divide-requires-clause-nonzero
divide-requires-clause-nonzero g c =
    let K = g.K.Ring.elements c.args.k.now in
    let L = g.K.Ring.lawful c.args.k.now in
    divisor-some K L c.args.a.now c.args.b.now c.in_ok-divisor.divisor c.requires.a
    c.requires.a_nonzero c.in_ok-divisor.ensures.gcd

pub returns-clause-nonzero : goal.returns-clause-nonzero
returns-clause-nonzero g c =
    let K = g.K.Ring.elements c.args.k.now in
    let L = g.K.Ring.lawful c.args.k.now in
    let d = c.in_ok-cofactor.ensures in
    cofactor-some K L c.args.a.now c.args.b.now c.in_ok-divisor.divisor c.in_ok-cofactor.cofactor
    (poly_of K c.in_ok-cofactor._zero) c.in_ok-divisor.ensures.gcd d.division c.requires.b
    c.requires.b_nonzero

pub returns-clause-multiple : goal.returns-clause-multiple
returns-clause-multiple g c =
    let K = g.K.Ring.elements c.args.k.now in
    let L = g.K.Ring.lawful c.args.k.now in
    let d = c.in_ok-cofactor.ensures in
    cofactor-multiple K L c.args.a.now c.args.b.now c.in_ok-divisor.divisor
    c.in_ok-cofactor.cofactor (poly_of K c.in_ok-cofactor._zero) c.in_ok-divisor.ensures.gcd
    d.division
