use Rattle.std.proofs.Common.{◌≡◌, ◌≤◌, [], ◌∷◌, length, arith}
use Rattle.ff_theory.proofs.Results.{ok_both}
use Rattle.ff_theory.specs.Values.{poly_of, IsPoly}
use Rattle.ff_make.proofs.Sizes.{short_poly}
use Rattle.ff_make.proofs.curve.quintic.Goals as goal

pub returns-clause-few : goal.returns-clause-few
returns-clause-few g c =
    let k = c.args.k.now in
    let F = g.K.Ring.elements k in
    let L = g.K.Ring.lawful k in
    let zero = c.zero-zero.result in
    let cs = zero ∷ c.args.c ∷ zero ∷ zero ∷ zero ∷ c.one.result ∷ [] in
    ok_both (λ r. IsPoly F r) (λ r. poly_of F r ≡ poly_of F cs) (λ r. length r ≤ 6)
    c.from_coeffs.result (λ r p e. short_poly F L r cs 6 p e (omega arith))
    c.from_coeffs.ensures.poly c.from_coeffs.ensures.value
