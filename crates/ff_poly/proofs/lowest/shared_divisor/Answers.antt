use Rattle.std.proofs.Common.{◌≡◌, length, arith, ap, get_or, ◌-◌}
use Rattle.ff_theory.specs.Values.{leading, polys_of}
use Rattle.ff_poly.proofs.Scaling.{lead-entry}
use Rattle.ff_poly.proofs.CommonFactor.{shared-some, shared-leading, shared-gcd}
use Rattle.ff_poly.proofs.lowest.shared_divisor.Goals as goal

pub returns-clause-nonzero : goal.returns-clause-nonzero
returns-clause-nonzero g c =
    let K = g.K.Ring.elements c.args.k.now in
    let L = g.K.Ring.lawful c.args.k.now in
    let x = (get_or c.coeffs.result.now (length c.coeffs-2.result.now - 1) 0) in
    let hx : K.value x ≡ leading K c.args.den.now = lead-entry K L c.args.den.now
    c.coeffs.result.now c.coeffs-2.result.now 0 c.coeffs.ensures c.coeffs-2.ensures
    (λ z. absurd (omega (arith, z, ap length c.coeffs-2.ensures, c.requires.nonzero))) in
    shared-some K L c.args.den.now c.in_ok-divisor_of_all.field-0 c.with_leading.result x
    c.requires.den c.in_ok-divisor_of_all.ensures.poly c.with_leading.ensures.poly
    c.requires.nonzero hx c.with_leading.ensures.value (polys_of K c.args.nums.now)
    (length c.args.nums.now) c.in_ok-divisor_of_all.ensures.gcd

pub returns-clause-leading : goal.returns-clause-leading
returns-clause-leading g c =
    let K = g.K.Ring.elements c.args.k.now in
    let L = g.K.Ring.lawful c.args.k.now in
    let x = (get_or c.coeffs.result.now (length c.coeffs-2.result.now - 1) 0) in
    let hx : K.value x ≡ leading K c.args.den.now = lead-entry K L c.args.den.now
    c.coeffs.result.now c.coeffs-2.result.now 0 c.coeffs.ensures c.coeffs-2.ensures
    (λ z. absurd (omega (arith, z, ap length c.coeffs-2.ensures, c.requires.nonzero))) in
    shared-leading K L c.args.den.now c.in_ok-divisor_of_all.field-0 c.with_leading.result x
    c.requires.den c.in_ok-divisor_of_all.ensures.poly c.with_leading.ensures.poly
    c.requires.nonzero hx c.with_leading.ensures.value (polys_of K c.args.nums.now)
    (length c.args.nums.now) c.in_ok-divisor_of_all.ensures.gcd

pub returns-clause-gcd : goal.returns-clause-gcd
returns-clause-gcd g c =
    let K = g.K.Ring.elements c.args.k.now in
    let L = g.K.Ring.lawful c.args.k.now in
    let x = (get_or c.coeffs.result.now (length c.coeffs-2.result.now - 1) 0) in
    let hx : K.value x ≡ leading K c.args.den.now = lead-entry K L c.args.den.now
    c.coeffs.result.now c.coeffs-2.result.now 0 c.coeffs.ensures c.coeffs-2.ensures
    (λ z. absurd (omega (arith, z, ap length c.coeffs-2.ensures, c.requires.nonzero))) in
    shared-gcd K L c.args.den.now c.in_ok-divisor_of_all.field-0 c.with_leading.result x
    c.requires.den c.in_ok-divisor_of_all.ensures.poly c.with_leading.ensures.poly
    c.requires.nonzero hx c.with_leading.ensures.value (polys_of K c.args.nums.now)
    (length c.args.nums.now) c.in_ok-divisor_of_all.ensures.gcd
