use Rattle.std.proofs.Common.{subst, ℕ}
use Rattle.std.proofs.Common.{List}
use Rattle.ff_theory.specs.Poly.{Poly}
use Rattle.ff_theory.specs.Division.{IsDivision}
use Rattle.ff_theory.specs.Values.{poly_of}
use Rattle.ff_poly.proofs.poly.Poly.remainder.Goals as goal

pub returns-clause-division : goal.returns-clause-division
returns-clause-division g c =
    let K = g.K.Ring.elements c.args.k.now in
    subst (λ (a : List ℕ). (q : Poly K.ring) × IsDivision K.ring (poly_of K a)
    (poly_of K c.args.b.now) q (poly_of K c.into_remainder.result)) c.in_ok-copy.ensures
    c.into_remainder.ensures.division
