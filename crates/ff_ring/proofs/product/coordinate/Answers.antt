use Rattle.std.proofs.Common.{◌≡◌, List, ℕ, ◌∙◌, ap}
use Rattle.std.proofs.lemmas.List.{with_items_is}
use Rattle.ff_theory.specs.Values.{poly_of, polys_over}
use Rattle.ff_theory.proofs.Poly.{polynomial_laws}
use Rattle.ff_theory.proofs.Results.{ok_map}
use Rattle.ff_theory.proofs.Solver.{zero_add}
use Rattle.ff_ring.specs.Ring.{basis_product}
use Rattle.ff_ring.proofs.product.coordinate.Goals as goal

pub returns-clause-value : goal.returns-clause-value
returns-clause-value g c =
    let F = g.K.Ring.elements c.args.k.now in
    let L = g.K.Ring.lawful c.args.k.now in
    let P = polys_over F in
    let product = basis_product F c.args.products.now c.args.y.now c.args.l in
    ok_map (λ (r : List ℕ). poly_of F r ≡ poly_of F c.deref.result.now)
    (λ (r : List ℕ). poly_of F r ≡ product) c.from_coeffs.result
    (λ r h. h ∙ ap (poly_of F) (c.deref.ensures.value ∙ with_items_is c.in_ok-sum.sum
    c.add_coordinate.new.sum (c.add_coordinate.ensures.len ∙ c.deref_mut.ensures.len))
    ∙ c.add_coordinate.ensures.value
    ∙ ap (λ t. P.add t product) (ap (poly_of F) c.deref_mut.ensures.value
    ∙ c.in_ok-sum.ensures.value)
    ∙ zero_add P (polynomial_laws F.ring L.laws L.tests) product) c.from_coeffs.ensures.value
