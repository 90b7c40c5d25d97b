use Rattle.std.proofs.Common.{◌∙◌, ap}
use Rattle.ff_theory.specs.Lawful.{lawful_field}
use Rattle.ff_theory.specs.Planes.{row_of}
use Rattle.ff_theory.specs.Values.{poly_of, plane_of}
use Rattle.ff_theory.specs.Algebra.{value_of}
use Rattle.ff_theory.proofs.Element.{over_clear}
use Rattle.ff_theory.proofs.Results.{ok_map}
use Rattle.ff_elem.specs.Elem.{algebra_in}
use Rattle.ff_elem.proofs.PolyLemmas.{poly-nonzero}
use Rattle.ff_elem.proofs.Quotients.{one-rows}
use Rattle.ff_basis.proofs.reading.inverse.Goals as goal

pub returns-clause-value : goal.returns-clause-value
returns-clause-value g c =
    let F = g.K.Ring.elements c.args.alg.now.k in
    let L = g.K.Ring.lawful c.args.alg.now.k in
    let f = c.args.alg.now.f in
    let D = lawful_field L in
    let A = algebra_in L f in
    let den = c.args.den.now in
    ok_map _ _ c.from_parts.result (λ r e.
    ap (A.mul (value_of D (plane_of F f) (row_of F.ring (poly_of F den)))) e
    ∙ over_clear D (plane_of F f) (plane_of F c.from_vec-num.result) (poly_of F den)
    (poly-nonzero F L den c.requires.den c.requires.nonzero)
    ∙ ap (value_of D (plane_of F f))
    (c.from_vec-num.ensures.value ∙ ap (plane_of F) c.in_ok-single.ensures)
    ∙ one-rows F L f c.in_ok-one.one c.in_ok-one.ensures.value) c.from_parts.ensures.value
