use Rattle.std.proofs.Common.{◌-◌, length, sym, ◌∙◌, ap, subst}
use Rattle.ff_theory.specs.Lawful.{lawful_field}
use Rattle.ff_theory.specs.Values.{poly_of, plane_of}
use Rattle.ff_theory.proofs.Results.{ok_map}
use Rattle.ff_charts.proofs.FiniteChart.{at_is}
use Rattle.ff_elem.specs.Elem.{algebra_in, elem_of}
use Rattle.ff_basis.specs.Blocks.{IsFactor}
use Rattle.ff_data.proofs.ChartLaws.{has}
use Rattle.ff_basis.proofs.reading.factor.Goals as goal

pub returns-in-Finite-clause-value : goal.returns-in-Finite-clause-value
returns-in-Finite-clause-value g c =
    let F = g.K.Ring.elements c.args.alg.now.k in
    let L = g.K.Ring.lawful c.args.alg.now.k in
    let f = c.args.alg.now.f in
    let A = algebra_in L f in
    ok_map _ _ c.inverse.result (λ r e.
    subst (λ t. IsFactor L f t (poly_of F c.args.den.now) (elem_of L f r)) (sym c.in-Finite.is)
    (ap (λ t. A.mul t (elem_of L f r))
    (sym (at_is (lawful_field L) (plane_of F f) (length f - 1)
    (has F L f c.args.alg.now.plane c.args.alg.now.has_y) (poly_of F c.args.den.now))) ∙ e))
    c.inverse.ensures.value
