use Rattle.std.proofs.Common.{◌≡◌, ◌*◌, ◌-◌, pred, length, sym, ap, ap₂, subst, arith}
use Rattle.ff_theory.specs.Vector.{IsVector, vector_of}
use Rattle.ff_theory.proofs.Results.{ok_both}
use Rattle.ff_data.proofs.NumeratorLemmas.{order_length}
use Rattle.ff_fibre.specs.Fibres.{AreCoefficientsOf}
use Rattle.ff_fibre.proofs.numerators.basis_numerator.Goals as goal

pub overflow_sub-coeffs : goal.overflow_sub-coeffs
overflow_sub-coeffs g c =
    let F = g.K.Ring.elements c.args.alg.now.k in
    let L = g.K.Ring.lawful c.args.alg.now.k in
    omega (
      arith,
      ap length c.coeffs.ensures,
      order_length F L c.args.alg.now.f
          c.args.alg.now.plane c.args.alg.now.has_y c.args.order.now c.requires.order,
    )

pub plane_of_vector-requires : goal.plane_of_vector-requires
plane_of_vector-requires g c =
    let F = g.K.Ring.elements c.args.alg.now.k in
    let rows : length c.args.alg.now.f - 1 ≡ length c.rows.result.now - 1 =
    ap (λ x. length x - 1) (sym c.rows.ensures) in
    let l : pred (length c.args.order.now.d) ≡ length c.coeffs.result.now - 1 =
    omega (arith, ap length c.coeffs.ensures) in
    subst (λ n. IsVector F n c.args.v.now) (ap₂ (λ a b. a * b) rows l) c.requires.vector

pub returns-clause-value : goal.returns-clause-value
returns-clause-value g c =
    let F = g.K.Ring.elements c.args.alg.now.k in
    let v = vector_of F c.args.v.now in
    let rows : length c.rows.result.now - 1 ≡ length c.args.alg.now.f - 1 =
    ap (λ x. length x - 1) c.rows.ensures in
    let l : length c.coeffs.result.now - 1 ≡ pred (length c.args.order.now.d) =
    omega (arith, ap length c.coeffs.ensures) in
    ok_both _ _ _ c.plane_of_vector.result (λ r s h. subst (λ n. AreCoefficientsOf F n
    (pred (length c.args.order.now.d)) v r) rows (subst (λ m. AreCoefficientsOf F
    (length c.rows.result.now - 1) m v r) l (record { shape = s; value = h })))
    c.plane_of_vector.ensures.shape c.plane_of_vector.ensures.value
