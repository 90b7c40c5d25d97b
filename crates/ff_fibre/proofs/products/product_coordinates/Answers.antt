use Rattle.std.proofs.Common.{◌≡◌, [], get_or, sym, ◌∙◌, subst}
use Rattle.std.proofs.lemmas.List.{get_or_default}
use Rattle.ff_theory.specs.Values.{plane_of}
use Rattle.ff_theory.proofs.Results.{ok_map}
use Rattle.ff_data.specs.Orders.{y_degree}
use Rattle.ff_data.specs.Vectors.{IsPlaneWithin}
use Rattle.ff_fibre.specs.Fibres.{IsProductOver}
use Rattle.ff_fibre.proofs.products.product_coordinates.Goals as goal

pub product_numerator-requires : goal.product_numerator-requires
product_numerator-requires g c =
    let F = g.K.Ring.elements c.args.alg.now.k in
    let L = g.K.Ring.lawful c.args.alg.now.k in
    let n = y_degree L c.args.alg.now.f in
    let x = c.index.result.now in
    let y = c.index-2.result.now in
    let p : IsPlaneWithin F n x = subst (IsPlaneWithin F n) (sym c.index.ensures)
    (c.requires.fibre.planes c.args.i x c.requires.i) in
    let q : IsPlaneWithin F n y = subst (IsPlaneWithin F n) (sym c.index-2.ensures)
    (c.requires.fibre.planes c.args.j y c.requires.j) in
    record {
      order = c.requires.order;
      equation = c.requires.equation;
      equation_is = c.requires.equation_is;
      a = p.plane;
      b = q.plane;
    }

pub coordinates-requires : goal.coordinates-requires
coordinates-requires g c = record {
  fibre = c.requires.fibre;
  plane = c.in_ok-plane.ensures.plane.plane;
  few = c.in_ok-plane.ensures.plane.few;
}

pub returns-clause-value : goal.returns-clause-value
returns-clause-value g c =
    let F = g.K.Ring.elements c.args.alg.now.k in
    let L = g.K.Ring.lawful c.args.alg.now.k in
    let planes = c.args.fibre.now.planes.items in
    let first : c.index.result.now ≡ get_or planes c.args.i [] = c.index.ensures
    ∙ get_or_default planes c.args.i c.index.result.now [] c.requires.i in
    let second : c.index-2.result.now ≡ get_or planes c.args.j [] = c.index-2.ensures
    ∙ get_or_default planes c.args.j c.index-2.result.now [] c.requires.j in
    ok_map _ _ c.coordinates.result (λ r h. record {
      quotient = plane_of F c.in_ok-plane.plane;
      product = subst (λ x. IsProductOver L c.args.alg.now.f c.args.order.now (plane_of F x)
          (plane_of F (get_or planes c.args.j [])) (plane_of F c.in_ok-plane.plane)) first
          (subst (λ y. IsProductOver L c.args.alg.now.f c.args.order.now
          (plane_of F c.index.result.now) (plane_of F y) (plane_of F c.in_ok-plane.plane)) second
          c.in_ok-plane.ensures.value);
      coordinates = h;
    }) c.coordinates.ensures.value
