use Rattle.std.proofs.Common.{ℕ, ◌-◌, ◌*◌, ◌<◌, ◌≤◌, length, sym, ap, ap₂, subst, arith}
use Rattle.ff_theory.specs.Poly.{coeff, polynomials}
use Rattle.ff_theory.specs.Division.{size}
use Rattle.ff_theory.specs.Values.{polys_of}
use Rattle.ff_lin.specs.Space.{IsSpaceOf}
use Rattle.ff_basis.proofs.Lengths.{len_is, spans_as}
use Rattle.ff_basis.proofs.Numerators.{den_positive, few, least_denominator, space_exact}
use Rattle.ff_basis.proofs.order_list.numerators.Goals as goal

pub overflow_sub-l : goal.overflow_sub-l
overflow_sub-l g c =
    let F = g.K.Ring.elements c.args.alg.now.k in
    let L = g.K.Ring.lawful c.args.alg.now.k in
    let a = c.args.alg.now in
    let long = den_positive F L a.f a.plane a.has_y c.args.order.now c.requires c.in_ok-den.den
    c.in_ok-den.rows.items c.in_ok-den.ensures in
    omega (arith, long, ap length c.coeffs.ensures)

pub reversed_span-requires-clause-few : goal.reversed_span-requires-clause-few
reversed_span-requires-clause-few g c =
    let F = g.K.Ring.elements c.args.alg.now.k in
    let L = g.K.Ring.lawful c.args.alg.now.k in
    let a = c.args.alg.now in
    let den = c.in_ok-den.den in
    let l = len_is F L den c.coeffs.result.now c.in_ok-den.ensures.denominator c.coeffs.ensures in
    subst (λ t. (s : ℕ) → s < length t → size F.ring (coeff (polynomials F.ring) (polys_of F t) s)
    ≤ length c.coeffs.result.now - 1) (sym c.deref.ensures.value)
    (λ s q. omega (
      arith,
      l,
      few F L a.f a.plane a.has_y c.args.order.now c.requires den
          c.in_ok-den.rows.items c.in_ok-den.ensures s q,
    ))

pub returns-clause-least : goal.returns-clause-least
returns-clause-least g c =
    let F = g.K.Ring.elements c.args.alg.now.k in
    let L = g.K.Ring.lawful c.args.alg.now.k in
    let a = c.args.alg.now in
    least_denominator F L a.f a.plane a.has_y c.args.order.now c.requires c.in_ok-den.den
    c.in_ok-den.rows.items c.in_ok-den.ensures

pub returns-clause-space : goal.returns-clause-space
returns-clause-space g c =
    let F = g.K.Ring.elements c.args.alg.now.k in
    let L = g.K.Ring.lawful c.args.alg.now.k in
    let n = ap (λ r. length r - 1) c.rows.ensures in
    let l = len_is F L c.in_ok-den.den c.coeffs.result.now c.in_ok-den.ensures.denominator
    c.coeffs.ensures in
    subst (λ m. IsSpaceOf F m c.in_ok-space.space) (ap₂ (λ a b. a * b) n l)
    c.in_ok-space.ensures.space

pub returns-clause-exact : goal.returns-clause-exact
returns-clause-exact g c =
    let F = g.K.Ring.elements c.args.alg.now.k in
    let L = g.K.Ring.lawful c.args.alg.now.k in
    let a = c.args.alg.now in
    let o = c.args.order.now in
    let den = c.in_ok-den.den in
    let rows = c.in_ok-den.rows.items in
    let s = c.in_ok-space.space in
    let n = ap (λ r. length r - 1) c.rows.ensures in
    let l = len_is F L den c.coeffs.result.now c.in_ok-den.ensures.denominator c.coeffs.ensures in
    space_exact F L a.f a.plane a.has_y o c.requires den rows c.in_ok-den.ensures s
    (subst (λ m. IsSpaceOf F m s) (ap₂ (λ a b. a * b) n l) c.in_ok-space.ensures.space)
    (spans_as F s.basis rows c.deref.result.now _ c.dim.result (length c.rows.result.now - 1) _
    (length c.coeffs.result.now - 1) (length o.space.basis) c.deref.ensures.value c.dim.ensures n l
    c.in_ok-space.ensures.same)
