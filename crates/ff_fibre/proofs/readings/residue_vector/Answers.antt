use Rattle.std.proofs.Common.{◌≡◌, ◌*◌, ◌-◌, pred, length, sym, ◌∙◌, ap, ap₂, subst, arith}
use Rattle.ff_theory.specs.Values.{plane_of}
use Rattle.ff_theory.specs.Vector.{IsVector}
use Rattle.ff_theory.proofs.Results.{ok_map}
use Rattle.ff_charts.specs.Lattice.{HasShape, flat}
use Rattle.ff_fibre.proofs.Equations.{residue_shape}
use Rattle.ff_fibre.proofs.readings.residue_vector.Goals as goal

pub vector_of_plane-requires : goal.vector_of_plane-requires
vector_of_plane-requires g c =
    let F = g.K.Ring.elements c.args.alg.now.k in
    let L = g.K.Ring.lawful c.args.alg.now.k in
    let low = plane_of F c.in_ok-low.low in
    let n = length c.args.alg.now.f - 1 in
    let rows : n ≡ length c.rows.result.now - 1 = ap (λ x. length x - 1) (sym c.rows.ensures) in
    let l : pred (length c.args.m.now) ≡ length c.coeffs.result.now - 1 =
    omega (arith, ap length c.coeffs.ensures) in
    record {
      a = c.in_ok-low.ensures.plane;
      shape = subst (λ n. HasShape F.ring n (length c.coeffs.result.now - 1) low) rows
          (subst (λ l. HasShape F.ring n l low) l (residue_shape F L c.args.m.now c.requires.m n
          c.args.plane.now c.requires.few low c.in_ok-low.ensures.value));
    }

pub returns-clause-vector : goal.returns-clause-vector
returns-clause-vector g c =
    let F = g.K.Ring.elements c.args.alg.now.k in
    let rows : length c.rows.result.now - 1 ≡ length c.args.alg.now.f - 1 =
    ap (λ x. length x - 1) c.rows.ensures in
    let l : length c.coeffs.result.now - 1 ≡ pred (length c.args.m.now) =
    omega (arith, ap length c.coeffs.ensures) in
    ok_map _ _ c.vector_of_plane.result (λ r h. subst (λ n. IsVector F n r.items)
    (ap₂ (λ a b. a * b) rows l) h) c.vector_of_plane.ensures.vector

pub returns-clause-value : goal.returns-clause-value
returns-clause-value g c =
    let F = g.K.Ring.elements c.args.alg.now.k in
    let L = g.K.Ring.lawful c.args.alg.now.k in
    let low = plane_of F c.in_ok-low.low in
    let l : length c.coeffs.result.now - 1 ≡ pred (length c.args.m.now) =
    omega (arith, ap length c.coeffs.ensures) in
    ok_map _ _ c.vector_of_plane.result (λ r h. record {
      residue = low;
      residues = c.in_ok-low.ensures.value;
      shape = residue_shape F L c.args.m.now c.requires.m (length c.args.alg.now.f - 1)
          c.args.plane.now c.requires.few low c.in_ok-low.ensures.value;
      value = λ j. h j ∙ ap (λ m. flat F.ring m low j) l;
    }) c.vector_of_plane.ensures.value
