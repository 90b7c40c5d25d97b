use Rattle.std.proofs.Common.{◌≡◌, ℕ, ◌+◌, ◌<◌, max, length, ◌∙◌, ap, arith}
use Rattle.ff_theory.specs.Poly.{coeff, polynomials}
use Rattle.ff_theory.specs.Values.{poly_of, polys_of, plane_of}
use Rattle.ff_theory.specs.Planes.{row_of}
use Rattle.ff_theory.specs.Monomial.{monomial, raised}
use Rattle.ff_theory.proofs.Poly.{polynomial_laws, polynomial_tests}
use Rattle.ff_theory.proofs.Results.{ok_map, ok_both}
use Rattle.ff_poly.proofs.PseudoDivision.{combination_by_loop, past_rows}
use Rattle.ff_poly.proofs.rows.combination.Goals as goal

pub returns-clause-len : goal.returns-clause-len
returns-clause-len g c =
    ok_map (λ r. length r.items ≡ c.max.result)
    (λ r. length r.items ≡ max (c.args.at + length c.args.b.now) (length c.args.a.now))
    c.combination_rows.result
    (λ r e. e ∙ c.max.ensures ∙ ap (λ n. max n (length c.args.a.now)) c.in_ok-end.ensures)
    c.combination_rows.ensures.len

pub returns-clause-value : goal.returns-clause-value
returns-clause-value g c =
    let K = g.K.Ring.elements c.args.k.now in
    let P = polynomials K.ring in
    let laws = polynomial_laws K.ring (g.met.K.Ring.laws c.args.k.now)
    (g.met.K.Ring.tests c.args.k.now) in
    let tests = polynomial_tests K.ring (g.met.K.Ring.laws c.args.k.now)
    (g.met.K.Ring.tests c.args.k.now) in
    let a = c.args.a.now in
    let b = c.args.b.now in
    let e = poly_of K c.args.c.now in
    let t = poly_of K c.args.t.now in
    let n = c.max.result in
    let long : n ≡ max (c.args.at + length b) (length a) = c.max.ensures
    ∙ ap (λ n. max n (length a)) c.in_ok-end.ensures in
    let Q = polynomials P in
    let sum = Q.add (Q.mul (row_of K.ring e) (plane_of K a))
    (Q.mul (monomial P t c.args.at) (plane_of K b)) in
    ok_both (λ r. length r.items ≡ n)
    (λ r. (i : ℕ) → i < n → coeff P (polys_of K r.items) i
    ≡ P.add (P.mul e (coeff P (polys_of K a) i))
    (P.mul t (coeff P (raised P c.args.at (polys_of K b)) i)))
    (λ r. plane_of K r.items ≡ sum) c.combination_rows.result
    (λ r len rows. combination_by_loop P laws tests (λ p. poly_of K p) e t a b r.items n c.args.at
    len rows
    (λ i l. past_rows P laws tests (λ p. poly_of K p) e t a b c.args.at i (omega (arith, long, l))
    (omega (arith, long, l)))) c.combination_rows.ensures.len c.combination_rows.ensures.rows
