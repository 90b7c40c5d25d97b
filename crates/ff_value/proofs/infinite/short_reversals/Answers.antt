use Rattle.std.proofs.Common.{◌∙◌, ap}
use Rattle.ff_theory.specs.Poly.{coeff, Poly, polynomials}
use Rattle.ff_theory.specs.Values.{polys_of}
use Rattle.ff_theory.proofs.PolyMap.{polynomial_domain}
use Rattle.ff_theory.specs.Lawful.{lawful_field}
use Rattle.ff_lattice.proofs.Remainders.{poly_at}
use Rattle.ff_value.proofs.infinite.short_reversals.Goals as goal

pub returns-clause-some : goal.returns-clause-some
returns-clause-some g c =
    let F = g.K.Ring.elements c.args.k.now in
    let P = polynomial_domain (lawful_field (g.K.Ring.lawful c.args.k.now)) in
    λ i l. ap (λ (M : Poly (polynomials F.ring)). coeff (polynomials F.ring) M.coeffs i)
    c.from_vec.ensures.value
    ∙ poly_at (polynomials F.ring) P.laws P.tests (polys_of F c.in_ok-list.list.items) i
    ∙ c.in_ok-list.ensures.value i l
