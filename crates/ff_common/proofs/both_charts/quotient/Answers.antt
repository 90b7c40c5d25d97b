use Rattle.std.proofs.Common.{◌*◌, ◌-◌, length, sym, ◌∙◌, ap, subst, arith}
use Rattle.ff_theory.proofs.Results.{ok_map}
use Rattle.ff_theory.specs.Values.{ArePolys, plane_of}
use Rattle.ff_theory.specs.Vector.{IsVector}
use Rattle.ff_charts.specs.Lattice.{HasShape}
use Rattle.ff_elem.specs.Elem.{elem_of}
use Rattle.ff_elem.proofs.Reduction.{plane-size}
use Rattle.ff_data.specs.declared.order.Chart.TheVariants.{Finite}
use Rattle.ff_common.specs.Common.{IsOver}
use Rattle.ff_data.proofs.ChartLaws.{chart_degree}
use Rattle.ff_common.proofs.both_charts.quotient.Goals as goal

pub plane_of_vector-requires : goal.plane_of_vector-requires
plane_of_vector-requires g c =
    let F = g.K.Ring.elements c.args.alg.now.k in
    subst (λ r. IsVector F ((length r - 1) * c.args.l) c.args.v.now) (sym c.rows.ensures)
    c.requires.vector

pub element-requires : goal.element-requires
element-requires g c =
    let F = g.K.Ring.elements c.args.alg.now.k in
    let L = g.K.Ring.lawful c.args.alg.now.k in
    let p = c.in_ok-plane.ensures in
    record {
      rows = subst (ArePolys F) (sym c.rows-2.ensures) p.plane.each;
      few = let s = p.shape.rows in
          omega (
            arith,
            s,
            plane-size F L c.in_ok-plane.plane p.plane,
            ap length c.rows-2.ensures,
            ap length c.rows.ensures,
          );
      den = c.requires.d;
      nonzero = c.requires.nonzero;
    }

pub returns-clause-value : goal.returns-clause-value
returns-clause-value g c =
    let F = g.K.Ring.elements c.args.alg.now.k in
    let L = g.K.Ring.lawful c.args.alg.now.k in
    let f = c.args.alg.now.f in
    let p = c.in_ok-plane.ensures in
    ok_map _ _ c.element.result
    (λ r h. (
      plane_of F c.in_ok-plane.plane,
      (
        subst (λ n. HasShape F.ring n c.args.l (plane_of F c.in_ok-plane.plane))
            (ap (λ r. length r - 1) c.rows.ensures
            ∙ sym (chart_degree F L f c.args.alg.now.plane c.args.alg.now.has_y Finite)) p.shape,
        (
          p.value,
          subst (λ r'. IsOver L f c.args.d.now (plane_of F r')
              (elem_of L f r)) c.rows-2.ensures h,
        ),
      ),
    ))
    c.element.ensures.value
