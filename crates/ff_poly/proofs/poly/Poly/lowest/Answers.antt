use Rattle.ff_poly.proofs.CommonFactor.{lowest-form, lowest-cross}
use Rattle.ff_poly.proofs.poly.Poly.lowest.Goals as goal

pub returns-clause-lowest : goal.returns-clause-lowest
returns-clause-lowest g c =
    let K = g.K.Ring.elements c.args.k.now in
    lowest-form K (g.K.Ring.lawful c.args.k.now) c.args.den.now c.in_ok-low.low
    c.in_ok-common.common c.args.nums.now c.in_ok-lows.lows.items c.requires.den
    c.in_ok-low.ensures.poly c.in_ok-common.ensures.poly c.in_ok-common.ensures.leading
    c.requires.nonzero c.in_ok-low.ensures.value c.in_ok-lows.ensures.value
    c.in_ok-common.ensures.gcd

pub returns-clause-equal : goal.returns-clause-equal
returns-clause-equal g c =
    let K = g.K.Ring.elements c.args.k.now in
    λ i l. lowest-cross K (g.K.Ring.lawful c.args.k.now) c.args.den.now c.in_ok-low.low
    c.in_ok-common.common c.args.nums.now c.in_ok-lows.lows.items c.requires.den
    c.in_ok-low.ensures.poly c.in_ok-common.ensures.poly c.in_ok-common.ensures.leading
    c.requires.nonzero c.in_ok-low.ensures.value c.in_ok-lows.ensures.value
    c.in_ok-common.ensures.gcd i
