use Rattle.std.proofs.Common.{◌≡◌, ◌*◌, ◌-◌, pred, length, sym, ◌∙◌, ap, ap₂, subst, arith}
use Rattle.ff_theory.specs.Values.{plane_of}
use Rattle.ff_theory.specs.Vector.{IsVector, vector_of, combination_of}
use Rattle.ff_charts.specs.Lattice.{HasShape, flat}
use Rattle.ff_lin.specs.Space.{rows_of, AreVectors}
use Rattle.ff_frac.proofs.FractionLemmas.{shape_rows}
use Rattle.ff_frac.proofs.socle.plane_with.Goals as goal

pub overflow_sub-l : goal.overflow_sub-l
overflow_sub-l g c = omega (arith, ap length c.coeffs.ensures, c.requires.fibre.basis.nonzero)

pub combination-requires : goal.combination-requires
combination-requires g c =
    let F = g.K.Ring.elements c.args.alg.now.k in
    let b = c.requires.fibre.basis in
    let e = c.deref.ensures.value in
    let s = c.args.fibre.now in
    let count : length s.table.items ≡ length c.deref.result.now =
    c.requires.fibre.table.count ∙ sym b.count ∙ ap length (sym e) in
    record {
      coefficients = subst (λ n. IsVector F n c.args.c.now) count c.requires.c;
      vectors = subst (λ n. AreVectors F n c.deref.result.now)
          (sym b.space.len ∙ sym c.len.ensures) (subst (AreVectors F _) (sym e) b.rows);
    }

pub plane_of_vector-requires : goal.plane_of_vector-requires
plane_of_vector-requires g c =
    let F = g.K.Ring.elements c.args.alg.now.k in
    let s = c.args.fibre.now in
    let rows : length c.args.alg.now.f - 1 ≡ length c.rows.result.now - 1 =
    ap (λ x. length x - 1) (sym c.rows.ensures) in
    let l : pred (length s.modulus) ≡ length c.coeffs.result.now - 1 =
    omega (arith, ap length c.coeffs.ensures) in
    subst (λ n. IsVector F n c.deref-2.result.now)
    (c.len.ensures ∙ c.requires.fibre.basis.space.len ∙ ap₂ (λ a b. a * b) rows l)
    (subst (IsVector F c.len.result) (sym c.deref-2.ensures.value) c.in_ok-v.ensures.vector)

pub returns-clause-few : goal.returns-clause-few
returns-clause-few g c =
    let F = g.K.Ring.elements c.args.alg.now.k in
    let L = g.K.Ring.lawful c.args.alg.now.k in
    let few = shape_rows F L c.in_ok-plane.plane c.in_ok-plane.ensures.plane _ _
    c.in_ok-plane.ensures.shape in
    omega (arith, few, ap length c.rows.ensures)

pub returns-clause-value : goal.returns-clause-value
returns-clause-value g c =
    let F = g.K.Ring.elements c.args.alg.now.k in
    let s = c.args.fibre.now in
    let rows : length c.rows.result.now - 1 ≡ length c.args.alg.now.f - 1 =
    ap (λ x. length x - 1) c.rows.ensures in
    let l : length c.coeffs.result.now - 1 ≡ pred (length s.modulus) =
    omega (arith, ap length c.coeffs.ensures) in
    let N = plane_of F c.in_ok-plane.plane in
    record {
      shape = subst (λ n. HasShape F.ring n (pred (length s.modulus)) N) rows
          (subst (λ l. HasShape F.ring (length c.rows.result.now - 1) l N) l
          c.in_ok-plane.ensures.shape);
      value = λ j. ap (λ l. flat F.ring l N j) (sym l) ∙ c.in_ok-plane.ensures.value j
          ∙ ap (λ v. vector_of F v j) c.deref-2.ensures.value ∙ c.in_ok-v.ensures.value j
          ∙ ap (λ rows. combination_of F (rows_of rows) (vector_of F c.args.c.now) j)
          c.deref.ensures.value;
    }
