use Rattle.std.proofs.Common.{◌≡◌, ◌-◌, length, map, ◌∙◌, sym, ap, arith, [], refl}
use Rattle.std.proofs.lemmas.List.{nil_from_length}
use Rattle.ff_theory.specs.Poly.{coeff}
use Rattle.ff_ring.proofs.scalar.leading_coefficient.Goals as goal

pub returns-then-n-eq0-clause-value : goal.returns-then-n-eq0-clause-value
returns-then-n-eq0-clause-value g c =
    let F = g.K.Ring.elements c.args.k.now in
    let p = c.args.p.now in
    let none : p ≡ [] = nil_from_length p
    (omega (arith, ap length c.coeffs-n.ensures, c.if-n-eq0.true)) in
    c.zero.ensures.value ∙ sym (ap (λ t. coeff F.ring (map F.value t) (length t - 1)) none)

pub returns-clause-value : goal.returns-clause-value
returns-clause-value g c =
    let F = g.K.Ring.elements c.args.k.now in
    let p = c.args.p.now in
    c.coeff.ensures.value ∙ ap (λ n. coeff F.ring (map F.value p) (n - 1))
    (ap length c.coeffs-n.ensures)
