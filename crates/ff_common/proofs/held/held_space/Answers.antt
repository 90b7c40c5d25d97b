use Rattle.std.proofs.Common.{◌≡◌, ◌*◌, ◌-◌, pred, length, sym, ◌∙◌, ap, subst, arith}
use Rattle.ff_theory.proofs.Results.{ok_both}
use Rattle.ff_theory.specs.Poly.{polynomials}
use Rattle.ff_lin.specs.Space.{IsSpaceOf}
use Rattle.ff_elem.proofs.PolyLemmas.{nonzero-length}
use Rattle.ff_data.specs.Orders.{y_degree}
use Rattle.ff_common.specs.Common.{IsTimesSpace}
use Rattle.ff_common.proofs.HeldSpaces.{held_is}
use Rattle.ff_common.proofs.held.held_space.Goals as goal

pub overflow_sub-coeffs : goal.overflow_sub-coeffs
overflow_sub-coeffs g c =
    let F = g.K.Ring.elements c.args.alg.now.k in
    let L = g.K.Ring.lawful c.args.alg.now.k in
    omega (
      arith,
      nonzero-length F L c.args.d.now c.requires.finite.modulus,
      ap length c.coeffs.ensures,
    )

pub lengthened-requires : goal.lengthened-requires
lengthened-requires g c =
    let F = g.K.Ring.elements c.args.alg.now.k in
    let L = g.K.Ring.lawful c.args.alg.now.k in
    let len : length c.coeffs.result.now - 1 ≡ pred (length c.args.d.now) =
    omega (arith, ap length c.coeffs.ensures) in
    record {
      space = subst (λ m. IsSpaceOf F (y_degree L c.args.alg.now.f * m) c.args.space.now) (sym len)
          c.requires.finite.space;
      room = omega (arith, len, c.requires.len);
    }

pub multiples-requires : goal.multiples-requires
multiples-requires g c =
    let F = g.K.Ring.elements c.args.alg.now.k in
    let L = g.K.Ring.lawful c.args.alg.now.k in
    let width = ap length c.coeffs-2.ensures in
    record {
      d = c.requires.finite.poly;
      positive = omega (arith, width, c.requires.nonzero);
      room = omega (
        arith,
        width,
        c.requires.len,
        nonzero-length F L c.args.d.now c.requires.finite.modulus,
      );
    }

pub returns : goal.returns
returns g c =
    let F = g.K.Ring.elements c.args.alg.now.k in
    let L = g.K.Ring.lawful c.args.alg.now.k in
    let f = c.args.alg.now.f in
    let low = c.in_ok-low.ensures in
    let len : length c.coeffs.result.now - 1 ≡ pred (length c.args.d.now) =
    omega (arith, ap length c.coeffs.ensures) in
    let width = ap length c.coeffs-2.ensures in
    ok_both _ _ _ c.sum.result
    (λ r h k. held_is F L f c.args.alg.now.plane c.args.alg.now.has_y c.args.d.now
    c.requires.finite.poly (length c.coeffs-2.result.now) c.args.l c.args.space.now
    c.requires.finite (omega (arith, c.requires.len, width)) c.in_ok-low.low c.in_ok-high.high r
    (subst (λ m. IsTimesSpace L f (polynomials F.ring).one m c.args.l c.args.space.now
    c.in_ok-low.low) len low.times) low.space c.in_ok-high.ensures
    (record { space = h.space; len = h.len ∙ low.space.len }) k c.args.t.now (sym width))
    c.sum.ensures.space c.sum.ensures.exact
