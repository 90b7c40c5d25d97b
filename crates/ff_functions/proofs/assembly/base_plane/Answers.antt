use Rattle.std.proofs.Common.{◌*◌, ◌-◌, length, sym, ◌∙◌, ap, subst, arith}
use Rattle.ff_theory.specs.Values.{plane_of}
use Rattle.ff_theory.specs.Vector.{vector_of, IsVector}
use Rattle.ff_charts.specs.Lattice.{HasShape}
use Rattle.ff_functions.proofs.PlaneLemmas.{few_rows}
use Rattle.ff_functions.proofs.CombinedLemmas.{base_over}
use Rattle.ff_functions.proofs.assembly.base_plane.Goals as goal

pub plane_of_vector-requires : goal.plane_of_vector-requires
plane_of_vector-requires g c =
    let F = g.K.Ring.elements c.args.alg.now.k in
    subst (λ r. IsVector F ((length r - 1) * c.args.frame.now.l) c.deref.result.now)
    (sym c.rows.ensures)
    (subst (IsVector F _) (sym c.deref.ensures.value) c.in_ok-v.ensures.vector)

pub returns-clause-plane : goal.returns-clause-plane
returns-clause-plane g c =
    let F = g.K.Ring.elements c.args.alg.now.k in
    let L = g.K.Ring.lawful c.args.alg.now.k in
    let p = c.in_ok-plane in
    record {
      plane = p.ensures.plane;
      few = let few = few_rows F L p.plane p.ensures.plane _ _ p.ensures.shape in
          omega (arith, few, ap length c.rows.ensures);
    }

pub returns-clause-value : goal.returns-clause-value
returns-clause-value g c =
    let F = g.K.Ring.elements c.args.alg.now.k in
    let L = g.K.Ring.lawful c.args.alg.now.k in
    let p = c.in_ok-plane in
    let s = c.args.frame.now in
    λ d e are. base_over F L c.args.alg.now.f c.args.alg.now.plane c.args.alg.now.has_y s
    (vector_of F c.args.coefficients.now) (vector_of F c.in_ok-v.v.items) c.in_ok-v.ensures.value
    (plane_of F p.plane) (subst (λ n. HasShape F.ring n s.l (plane_of F p.plane))
    (ap (λ r. length r - 1) c.rows.ensures) p.ensures.shape)
    (λ j. p.ensures.value j ∙ ap (λ l. vector_of F l j) c.deref.ensures.value) d e are
