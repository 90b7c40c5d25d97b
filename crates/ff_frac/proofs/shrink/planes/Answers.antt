use Rattle.std.proofs.Common.{◌≡◌, ◌*◌, ◌-◌, ℕ, pred, length, refl, sym, ap, subst, arith}
use Rattle.std.proofs.Common.{Vec, Global}
use Rattle.ff_lin.specs.Space.{AreVectors}
use Rattle.ff_lin.proofs.InsertRow.{basis_vectors}
use Rattle.ff_data.specs.Orders.{y_degree}
use Rattle.ff_data.proofs.NumeratorLemmas.{order_length}
use Rattle.ff_frac.proofs.ShrinkLists.{basis_planes}
use Rattle.ff_frac.proofs.shrink.planes.Goals as goal

pub overflow_sub-l : goal.overflow_sub-l
overflow_sub-l g c =
    let F = g.K.Ring.elements c.args.alg.now.k in
    let L = g.K.Ring.lawful c.args.alg.now.k in
    let pos = order_length F L c.args.alg.now.f c.args.alg.now.plane c.args.alg.now.has_y
    c.args.order.now c.requires.order in
    omega (arith, ap length c.coeffs.ensures, pos)

pub planes_of-requires : goal.planes_of-requires
planes_of-requires g c =
    let F = g.K.Ring.elements c.args.alg.now.k in
    let L = g.K.Ring.lawful c.args.alg.now.k in
    let items : Vec ℕ Global → _ = λ v. v.items in
    let space = c.requires.order.space in
    let e : pred (length c.args.order.now.d) ≡ length c.coeffs.result.now - 1 =
    omega (arith, ap length c.coeffs.ensures) in
    subst (λ l. AreVectors F (y_degree L c.args.alg.now.f * l) c.basis.result.now) e
    (basis_vectors F items c.basis.result.now c.basis.result.now c.args.order.now.space _ refl
    c.basis.ensures (sym space.len) space.space)

pub returns-clause-value : goal.returns-clause-value
returns-clause-value g c =
    let F = g.K.Ring.elements c.args.alg.now.k in
    let L = g.K.Ring.lawful c.args.alg.now.k in
    let n = y_degree L c.args.alg.now.f in
    let e : length c.coeffs.result.now - 1 ≡ pred (length c.args.order.now.d) =
    omega (arith, ap length c.coeffs.ensures) in
    basis_planes F n _ _ _ _ e c.basis.ensures c.planes_of.result c.planes_of.ensures.len
    c.planes_of.ensures.value
