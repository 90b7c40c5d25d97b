use Rattle.std.proofs.Common.{◌≡◌, ◌≤◌, ◌*◌, ◌-◌, pred, length, sym, ◌∙◌, ap, ap₂, subst, arith}
use Rattle.ff_theory.specs.Values.{plane_of}
use Rattle.ff_theory.specs.Vector.{IsVector, vector_of}
use Rattle.ff_theory.proofs.Results.{ok_map}
use Rattle.ff_charts.specs.Lattice.{HasShape, flat}
use Rattle.ff_frac.proofs.FractionLemmas.{listed_shape}
use Rattle.ff_frac.proofs.ShrinkLemmas.{quotient_vector_is}
use Rattle.ff_frac.proofs.shrink.quotient_vector.Goals as goal

pub overflow_sub-l : goal.overflow_sub-l
overflow_sub-l g c = omega (arith, ap length c.coeffs.ensures, c.requires.nonzero)

pub vector_of_plane-requires-clause-shape : goal.vector_of_plane-requires-clause-shape
vector_of_plane-requires-clause-shape g c =
    let F = g.K.Ring.elements c.args.alg.now.k in
    let L = g.K.Ring.lawful c.args.alg.now.k in
    let n = length c.args.alg.now.f - 1 in
    let m = c.args.m.now in
    let low = plane_of F c.in_ok-low.low in
    let few : length c.in_ok-quotient.quotient ≤ n =
    omega (arith, c.in_ok-quotient.ensures.len, c.requires.plane.few) in
    let l : pred (length m) ≡ length c.coeffs.result.now - 1 =
    omega (arith, ap length c.coeffs.ensures) in
    subst (λ n. HasShape F.ring n (length c.coeffs.result.now - 1) low)
    (ap (λ r. length r - 1) (sym c.rows.ensures))
    (subst (λ l. HasShape F.ring n l low) l
    (listed_shape F L m c.requires.m n c.in_ok-quotient.quotient low c.in_ok-low.ensures.value
    few))

pub returns-clause-vector : goal.returns-clause-vector
returns-clause-vector g c =
    let F = g.K.Ring.elements c.args.alg.now.k in
    let rows : length c.rows.result.now - 1 ≡ length c.args.alg.now.f - 1 =
    ap (λ x. length x - 1) c.rows.ensures in
    let l : length c.coeffs.result.now - 1 ≡ pred (length c.args.m.now) =
    omega (arith, ap length c.coeffs.ensures) in
    ok_map _ _ c.vector_of_plane.result
    (λ r h. subst (λ n. IsVector F n r.items) (ap₂ (λ a b. a * b) rows l) h)
    c.vector_of_plane.ensures.vector

pub returns-clause-value : goal.returns-clause-value
returns-clause-value g c h =
    let F = g.K.Ring.elements c.args.alg.now.k in
    let L = g.K.Ring.lawful c.args.alg.now.k in
    let low = plane_of F c.in_ok-low.low in
    let q = c.in_ok-quotient in
    let short : length q.quotient ≤ length c.args.alg.now.f - 1 =
    omega (arith, q.ensures.len, c.requires.plane.few) in
    let l : length c.coeffs.result.now - 1 ≡ pred (length c.args.m.now) =
    omega (arith, ap length c.coeffs.ensures) in
    ok_map _ _ c.vector_of_plane.result (λ r v. quotient_vector_is F L
    (length c.args.alg.now.f - 1) c.args.by.now c.args.m.now c.requires.by c.requires.by_nonzero
    c.requires.m c.requires.nonzero c.args.plane.now c.requires.plane.few h q.quotient short
    q.ensures.value low c.in_ok-low.ensures.value (vector_of F r.items)
    (λ j. v j ∙ ap (λ l. flat F.ring l low j) l)) c.vector_of_plane.ensures.value
