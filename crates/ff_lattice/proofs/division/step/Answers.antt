use Rattle.std.proofs.Common.{◌≡◌, ◌+◌, ◌-◌, ◌≤◌, length, map, [], sym, ◌∙◌, ap, ap₂, arith}
use Rattle.std.proofs.lemmas.List.{get_or_default}
use Rattle.ff_theory.specs.Division.{size}
use Rattle.ff_theory.specs.Poly.{coeff, polynomials}
use Rattle.ff_theory.specs.Planes.{row_of}
use Rattle.ff_theory.specs.Values.{poly_of, plane_of, planes_over}
use Rattle.ff_theory.specs.Monomial.{monomial}
use Rattle.ff_theory.proofs.Poly.{polynomial_laws, polynomial_tests}
use Rattle.ff_poly.proofs.RowLists.{row-value}
use Rattle.ff_poly.proofs.LongDivision.{poly-size}
use Rattle.ff_lattice.proofs.Remainders.{poly_at, step_value, step_smaller}
use Rattle.ff_lattice.proofs.division.step.Goals as goal

pub returns-clause-value : goal.returns-clause-value
returns-clause-value g c =
    let F = g.K.Ring.elements c.args.k.now in
    let laws = g.met.K.Ring.laws c.args.k.now in
    let tests = g.met.K.Ring.tests c.args.k.now in
    let P = polynomials F.ring in
    let at = length c.rows-high.result.now - 1 + 1 - length c.rows-low.result.now in
    step_value P (polynomial_laws F.ring laws tests) (polynomial_tests F.ring laws tests)
    (plane_of F c.args.a.now) (plane_of F c.args.by.now) (plane_of F c.from_vec.result)
    (poly_of F c.in_ok-t.t) 0 at
    (c.from_vec.ensures.value ∙ c.in_ok-rest.ensures.value
    ∙ ap₂ (λ o a. (planes_over F).add ((planes_over F).mul (row_of F.ring o) (plane_of F a))
    ((planes_over F).mul (monomial P (poly_of F c.in_ok-t.t) at)
    (plane_of F c.rows-low.result.now))) c.requires.one_value c.rows-high.ensures
    ∙ ap (λ b. (planes_over F).add ((planes_over F).mul (planes_over F).one
    (plane_of F c.args.a.now)) ((planes_over F).mul (monomial P (poly_of F c.in_ok-t.t) at)
    (plane_of F b))) c.rows-low.ensures)

pub returns-clause-smaller : goal.returns-clause-smaller
returns-clause-smaller g c =
    let F = g.K.Ring.elements c.args.k.now in
    let laws = g.met.K.Ring.laws c.args.k.now in
    let tests = g.met.K.Ring.tests c.args.k.now in
    let P = polynomials F.ring in
    let PL = polynomial_laws F.ring laws tests in
    let PT = polynomial_tests F.ring laws tests in
    let a = c.args.a.now in
    let n = length a - 1 in
    let at = length c.rows-high.result.now - 1 + 1 - length c.rows-low.result.now in
    let high = ap length c.rows-high.ensures in
    let low = ap length c.rows-low.ensures in
    let sa : size P (plane_of F a) ≡ length a = poly-size P PL PT
    (λ p. poly_of F p) a c.requires.a.canonical in
    let sb : size P (plane_of F c.args.by.now)
    ≡ length c.args.by.now = poly-size P PL PT
    (λ p. poly_of F p) c.args.by.now c.requires.by.canonical in
    let sr : size P (plane_of F c.from_vec.result)
    ≡ length c.from_vec.result = poly-size P PL PT
    (λ p. poly_of F p) c.from_vec.result c.from_vec.ensures.plane.canonical in
    let index : length c.rows-high.result.now - 1 ≡ n = omega (arith, high) in
    let top : poly_of F c.in_ok-t.t ≡ P.neg (coeff P
    (plane_of F a).coeffs n) = c.in_ok-t.ensures.value
    ∙ ap (λ p. P.neg (poly_of F p)) (c.index-high-top.is
    ∙ get_or_default c.rows-high.result.now
    (length c.rows-high.result.now - 1) c.index-high-top.result [] (omega
    (arith, high, c.requires.nonzero, c.requires.longer)))
    ∙ ap P.neg (row-value F c.rows-high.result.now (length c.rows-high.result.now - 1)
    ∙ ap₂ (λ r i. coeff P (map (λ p. poly_of F p) r) i) c.rows-high.ensures index
    ∙ sym (poly_at P PL PT (map (λ p. poly_of F p) a) n)) in
    let small : size P (plane_of F c.from_vec.result) ≤ n = step_smaller P PL PT (plane_of F a)
    (plane_of F c.args.by.now) (plane_of F c.from_vec.result) (poly_of F c.in_ok-t.t) n at
    (c.from_vec.ensures.value ∙ c.in_ok-rest.ensures.value
    ∙ ap₂ (λ o a. (planes_over F).add ((planes_over F).mul (row_of F.ring o) (plane_of F a))
    ((planes_over F).mul (monomial P (poly_of F c.in_ok-t.t) at)
    (plane_of F c.rows-low.result.now))) c.requires.one_value c.rows-high.ensures
    ∙ ap (λ b. (planes_over F).add ((planes_over F).mul (planes_over F).one (plane_of F a))
    ((planes_over F).mul (monomial P (poly_of F c.in_ok-t.t) at)
    (plane_of F b))) c.rows-low.ensures)
    c.requires.monic (omega (arith, sa, c.requires.nonzero, c.requires.longer)) (omega
    (arith, sb, high, low, c.requires.longer, c.requires.nonzero)) (omega
    (arith, sb, c.requires.nonzero)) top in
    omega (arith, small, sr, c.requires.nonzero, c.requires.longer)
