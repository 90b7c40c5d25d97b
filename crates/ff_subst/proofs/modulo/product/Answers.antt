use Rattle.std.proofs.Common.{subst}
use Rattle.ff_theory.specs.Poly.{polynomials}
use Rattle.ff_theory.specs.Division.{IsDivision}
use Rattle.ff_theory.specs.Values.{poly_of}
use Rattle.ff_theory.proofs.Results.{ok_map}
use Rattle.ff_subst.specs.Congruence.{IsCongruent}
use Rattle.ff_subst.proofs.Remainders.{division-congruent}
use Rattle.ff_subst.proofs.modulo.product.Goals as goal

pub returns-clause-congruent : goal.returns-clause-congruent
returns-clause-congruent g c =
    let K = g.K.Ring.elements c.args.k.now in
    let L = g.K.Ring.lawful c.args.k.now in
    let D = polynomials K.ring in
    let m = poly_of K c.args.m.now in
    let N = D.mul (poly_of K c.args.a.now) (poly_of K c.args.b.now) in
    ok_map (λ r. (q : D.carrier) × IsDivision K.ring (poly_of K c.in_ok-whole.whole) m q (poly_of K
    r)) (λ r. IsCongruent D m N (poly_of K r)) c.remainder.result
    (λ r h. subst (λ a. IsCongruent D m a (poly_of K r)) c.in_ok-whole.ensures.value
    (division-congruent K L (poly_of K c.in_ok-whole.whole) m h.0 (poly_of K r) h.1))
    c.remainder.ensures.division
