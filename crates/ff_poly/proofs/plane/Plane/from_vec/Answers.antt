use Rattle.std.proofs.Common.{◌≡◌, ◌∙◌, ap, map, take}
use Rattle.ff_theory.specs.Poly.{polynomials}
use Rattle.ff_theory.proofs.Poly.{polynomial_laws, polynomial_tests}
use Rattle.ff_theory.proofs.Coeffs.{poly_ext}
use Rattle.ff_theory.specs.Values.{poly_of, plane_of}
use Rattle.ff_poly.proofs.plane.Plane.from_vec.Goals as goal

pub returns-clause-value : goal.returns-clause-value
returns-clause-value g c =
    let K = g.K.Ring.elements c.args.k.now in
    let laws = g.met.K.Ring.laws c.args.k.now in
    let tests = g.met.K.Ring.tests c.args.k.now in
    let e : c.truncate.new.self.items ≡ take c.significant_rows-n.result c.deref.result.now = cc in
    ap (plane_of K) e
    ∙ poly_ext (polynomials K.ring) (polynomial_laws K.ring laws tests)
    (polynomial_tests K.ring laws tests)
    (map (λ p. poly_of K p) (take c.significant_rows-n.result c.deref.result.now))
    (map (λ p. poly_of K p) c.deref.result.now) c.significant_rows-n.ensures.same
    ∙ ap (plane_of K) c.deref.ensures.value
