use Rattle.std.proofs.Common.{ap, ◌-◌, ◌≡◌, ℕ, ◌≤◌, ◌<◌, ◌∙◌, arith, length, List}
use Rattle.ff_theory.proofs.Results.{ok_map, ok_both}
use Rattle.ff_theory.specs.Values.{IsPoly, poly_of}
use Rattle.ff_theory.specs.Vector.{vector_of}
use Rattle.ff_describe.proofs.RowLemmas.{read-poly, read-short}
use Rattle.ff_describe.proofs.coordinates.reversed_poly.Goals as goal

pub returns-clause-short : goal.returns-clause-short
returns-clause-short g c =
    let F = g.K.Ring.elements c.args.k.now in
    let L = g.K.Ring.lawful c.args.k.now in
    let list = c.deref.result.now in
    ok_both (IsPoly F) (λ (r : List ℕ). poly_of F r ≡ poly_of F list)
    (λ (r : List ℕ). length r ≤ c.args.n) c.from_coeffs.result
    (λ r h e. let s : length r ≤ length list = read-short F L r list h e in
    omega (arith, s, c.in_ok-list.ensures.vector.len, c.deref.ensures.len))
    c.from_coeffs.ensures.poly c.from_coeffs.ensures.value

pub returns-clause-value : goal.returns-clause-value
returns-clause-value g c =
    let F = g.K.Ring.elements c.args.k.now in
    let L = g.K.Ring.lawful c.args.k.now in
    let list = c.deref.result.now in
    ok_map (λ (r : List ℕ). poly_of F r ≡ poly_of F list)
    (λ (r : List ℕ). (a : ℕ) → a < c.args.n
    → vector_of F r a ≡ vector_of F c.args.row.now (c.args.n - 1 - a)) c.from_coeffs.result
    (λ r e a l. read-poly F L r list e a
    ∙ ap (λ t. vector_of F t a) c.deref.ensures.value ∙ c.in_ok-list.ensures.value a l)
    c.from_coeffs.ensures.value
