use Rattle.std.proofs.Common.{◌≡◌, ◌*◌, pred, [], length, get_or, sym, ◌∙◌, ap, subst, arith}
use Rattle.ff_theory.specs.Vector.{vectors_of}
use Rattle.ff_lin.specs.Space.{rows_of, AreVectors, IsSpaceOf}
use Rattle.ff_data.specs.Orders.{y_degree}
use Rattle.ff_fibre.specs.Fibres.{AreCoefficientsOf}
use Rattle.ff_fibre.proofs.parts.basis_at.Goals as goal

pub planes_of-requires : goal.planes_of-requires
planes_of-requires g c =
    let F = g.K.Ring.elements c.args.alg.now.k in
    let L = g.K.Ring.lawful c.args.alg.now.k in
    subst (AreVectors F _) (sym c.deref.ensures.value)
    (subst (λ x. AreVectors F (y_degree L c.args.alg.now.f * length x) c.in_ok-rows.rows.items)
    (sym c.coeffs.ensures) c.in_ok-rows.ensures.vectors)

pub returns : goal.returns
returns g c =
    let F = g.K.Ring.elements c.args.alg.now.k in
    let L = g.K.Ring.lawful c.args.alg.now.k in
    let n = y_degree L c.args.alg.now.f in
    let m = c.in_ok-modulus.ensures in
    let rows = c.in_ok-rows.rows.items in
    let planes = c.in_ok-planes.planes.items in
    let p = c.in_ok-planes.ensures in
    let wide : length c.args.order.now.d ≡ pred (length c.in_ok-modulus.modulus) =
    omega (arith, m.len) in
    let count : length rows ≡ length planes = sym (p.len ∙ ap length c.deref.ensures.value) in
    record {
      form = record {
        modulus = m.modulus;
        nonzero = omega (arith, m.len);
        space = subst (λ l. IsSpaceOf F (n * l) c.in_ok-modulus.space) wide m.space;
        planes = p.planes;
        rows = subst (λ l. AreVectors F (n * l) rows) wide c.in_ok-rows.ensures.vectors;
        count = count;
      };
      len = m.len;
      modulus = m.value;
      space = m.times;
      vectors = λ i l. subst (λ x. AreCoefficientsOf F n (length x) (vectors_of F (rows_of rows) i)
          (get_or planes i [])) c.coeffs.ensures (subst (λ x. AreCoefficientsOf F n
          (length c.coeffs.result.now) (vectors_of F (rows_of x) i) (get_or planes i []))
          c.deref.ensures.value
          (p.value i (omega (arith, l, p.len))));
      basis = c.in_ok-rows.ensures.basis;
    }
