use Rattle.std.proofs.Common.{◌∙◌, ap}
use Rattle.ff_theory.specs.Lawful.{lawful_field}
use Rattle.ff_theory.specs.Planes.{row_of}
use Rattle.ff_theory.specs.Values.{plane_of}
use Rattle.ff_theory.specs.Algebra.{value_of}
use Rattle.ff_theory.proofs.Results.{ok_map}
use Rattle.ff_elem.specs.Elem.{algebra_in, elem_of}
use Rattle.ff_basis.proofs.reading.next_sum.Goals as goal

pub returns : goal.returns
returns g c =
    let F = g.K.Ring.elements c.args.alg.now.k in
    let L = g.K.Ring.lawful c.args.alg.now.k in
    let f = c.args.alg.now.f in
    let A = algebra_in L f in
    ok_map _ _ c.step.result
    (λ r h. record {
      element = h.element;
      value = h.value ∙ ap (λ p. A.add (value_of (lawful_field L) (plane_of F f) (row_of F.ring p))
          (A.mul (elem_of L f c.args.theta.now) (elem_of L f c.args.sum.now)))
          c.in_ok-row.ensures.value;
    }) c.step.ensures
