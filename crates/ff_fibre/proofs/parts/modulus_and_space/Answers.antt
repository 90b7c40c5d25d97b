use Rattle.std.proofs.Common.{◌≡◌, ◌*◌, ◌-◌, pred, length, ◌∙◌, ap, subst, arith}
use Rattle.ff_theory.specs.Poly.{polynomials}
use Rattle.ff_theory.specs.Values.{poly_of}
use Rattle.ff_lin.specs.Space.{IsSpaceOf}
use Rattle.ff_common.specs.Common.{IsTimesSpace}
use Rattle.ff_data.specs.Orders.{y_degree}
use Rattle.ff_data.proofs.NumeratorLemmas.{order_length}
use Rattle.ff_fibre.proofs.PowerPlanes.{product_list}
use Rattle.ff_fibre.proofs.parts.modulus_and_space.Goals as goal

pub overflow_sub-l : goal.overflow_sub-l
overflow_sub-l g c =
    let F = g.K.Ring.elements c.args.alg.now.k in
    let L = g.K.Ring.lawful c.args.alg.now.k in
    omega (
      arith,
      ap length c.coeffs-l.ensures,
      order_length F L c.args.alg.now.f
          c.args.alg.now.plane c.args.alg.now.has_y c.args.order.now c.requires.order,
    )

pub times_space-requires : goal.times_space-requires
times_space-requires g c =
    let F = g.K.Ring.elements c.args.alg.now.k in
    let L = g.K.Ring.lawful c.args.alg.now.k in
    let pos = order_length F L c.args.alg.now.f c.args.alg.now.plane c.args.alg.now.has_y
    c.args.order.now c.requires.order in
    let l : pred (length c.args.order.now.d) ≡ length c.coeffs-l.result.now - 1 =
    omega (arith, ap length c.coeffs-l.ensures) in
    record {
      factor = c.in_ok-factor.ensures.poly;
      room = omega (arith, c.in_ok-factor.ensures.len, ap length c.coeffs-l.ensures, pos);
      space = subst (λ m. IsSpaceOf F (y_degree L c.args.alg.now.f * m) c.args.order.now.space) l
          c.requires.order.space;
    }

pub returns-clause-len : goal.returns-clause-len
returns-clause-len g c =
    let F = g.K.Ring.elements c.args.alg.now.k in
    let L = g.K.Ring.lawful c.args.alg.now.k in
    let d = c.args.order.now.d in
    product_list F L c.in_ok-modulus.modulus d (F.value c.args.a) c.in_ok-modulus.ensures.poly
    c.requires.order.d (order_length F L c.args.alg.now.f c.args.alg.now.plane
    c.args.alg.now.has_y c.args.order.now c.requires.order) (c.in_ok-modulus.ensures.value
    ∙ ap (λ t. (polynomials F.ring).mul t (poly_of F d)) c.in_ok-factor.ensures.value)

pub returns-clause-space : goal.returns-clause-space
returns-clause-space g c =
    let F = g.K.Ring.elements c.args.alg.now.k in
    let L = g.K.Ring.lawful c.args.alg.now.k in
    subst (λ x. IsSpaceOf F (y_degree L c.args.alg.now.f * length x) c.in_ok-space.space)
    c.coeffs-l.ensures c.in_ok-space.ensures.space

pub returns-clause-value : goal.returns-clause-value
returns-clause-value g c =
    let F = g.K.Ring.elements c.args.alg.now.k in
    c.in_ok-modulus.ensures.value
    ∙ ap (λ t. (polynomials F.ring).mul t (poly_of F c.args.order.now.d))
    c.in_ok-factor.ensures.value

pub returns-clause-times : goal.returns-clause-times
returns-clause-times g c =
    let F = g.K.Ring.elements c.args.alg.now.k in
    let L = g.K.Ring.lawful c.args.alg.now.k in
    let f = c.args.alg.now.f in
    let old = c.args.order.now.space in
    let d = length c.args.order.now.d in
    let l : length c.coeffs-l.result.now - 1 ≡ pred d = omega
    (arith, ap length c.coeffs-l.ensures) in
    subst (λ t. IsTimesSpace L f t (pred d) d old c.in_ok-space.space) c.in_ok-factor.ensures.value
    (subst (λ m. IsTimesSpace L f (poly_of F c.in_ok-factor.factor) m d old c.in_ok-space.space) l
    (subst (λ x. IsTimesSpace L f (poly_of F c.in_ok-factor.factor)
    (length c.coeffs-l.result.now - 1)
    (length x) old c.in_ok-space.space) c.coeffs-l.ensures c.in_ok-space.ensures.times))
