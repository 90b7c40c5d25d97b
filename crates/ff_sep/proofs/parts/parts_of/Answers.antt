use Rattle.std.proofs.Common.{◌-◌, ◌<◌, length, sym, ◌∙◌, ap, subst, arith}
use Rattle.ff_theory.specs.Poly.{coeff, polynomials}
use Rattle.ff_theory.specs.Values.{polys_of}
use Rattle.ff_elem.proofs.Cofactors.{ok_four}
use Rattle.ff_elem.proofs.Quotients.{element-count}
use Rattle.ff_sep.proofs.SepParts.{has-parts, whole-nonzero}
use Rattle.ff_sep.proofs.parts.parts_of.Goals as goal

pub falling_rows-requires-clause-count : goal.falling_rows-requires-clause-count
falling_rows-requires-clause-count g c =
    let F = g.K.Ring.elements c.args.alg.now.k in
    omega (
      arith,
      c.requires.powers.count,
      ap length c.rows.ensures,
      element-count F (g.K.Ring.lawful c.args.alg.now.k) c.args.alg.now.f c.args.w.now
          c.args.alg.now.plane c.args.alg.now.has_y c.requires.w,
    )

pub lowest-requires-clause-nonzero : goal.lowest-requires-clause-nonzero
lowest-requires-clause-nonzero g c =
    whole-nonzero (g.K.Ring.elements c.args.alg.now.k) (g.K.Ring.lawful c.args.alg.now.k)
    c.args.alg.now.f c.args.alg.now.plane c.args.alg.now.has_y c.args.w.now c.args.powers.now
    c.in_ok-den.den c.index-powers-powers.result c.requires.w c.requires.powers
    c.index-powers-powers.is c.in_ok-den.ensures.value

pub returns : goal.returns
returns g c =
    let F = g.K.Ring.elements c.args.alg.now.k in
    let P = polynomials F.ring in
    let e = c.lowest.ensures in
    let w = c.args.w.now in
    let num = c.deref.result.now in
    let list = c.deref.ensures.value in
    ok_four _ _ _ _ _ c.lowest.result
    (λ r den nums lowest equal. has-parts F (g.K.Ring.lawful c.args.alg.now.k) c.args.alg.now.f
    c.args.alg.now.plane c.args.alg.now.has_y w c.args.powers.now c.in_ok-den.den
    c.index-powers-powers.result r.0 num r.1.items c.requires.w c.requires.powers
    c.index-powers-powers.is c.in_ok-den.ensures.value
    (ap length list ∙ c.in_ok-rows.ensures.len ∙ ap length c.rows.ensures)
    (λ i l. ap (λ n. coeff P (polys_of F n) i) list
    ∙ c.in_ok-rows.ensures.value i (subst (λ n. i < length n) (sym c.rows.ensures) l)
    ∙ ap (λ n. P.mul (coeff P (polys_of F n) i)
    (coeff P (polys_of F c.args.powers.now) (length n - i))) c.rows.ensures) den nums lowest equal)
    e.den e.nums e.lowest e.equal
