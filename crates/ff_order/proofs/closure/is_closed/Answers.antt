use Rattle.std.proofs.Common.{ℕ, ◌+◌, ◌<◌, length, refl, sym, subst}
use Rattle.ff_theory.proofs.Results.{ok_map}
use Rattle.ff_lin.proofs.InsertRow.{basis_vectors}
use Rattle.ff_data.specs.Orders.{chart_of}
use Rattle.ff_order.specs.Closing.{ArePlanesOf, HasMultiples, HasProducts}
use Rattle.ff_order.proofs.Closing.{closed_space}
use Rattle.ff_order.proofs.closure.is_closed.Goals as goal

pub planes_of-requires-clause-vectors : goal.planes_of-requires-clause-vectors
planes_of-requires-clause-vectors g c =
    basis_vectors (g.K.Ring.elements c.args.alg.now.k) (λ v. v.items) c.basis.result.now
    c.basis.result.now c.args.space.now _ refl c.basis.ensures (sym c.requires.space.len)
    c.requires.space.space

pub returns : goal.returns
returns g c =
    let L = g.K.Ring.lawful c.args.alg.now.k in
    let f = c.args.alg.now.f in
    let chart = c.args.chart in
    let d = c.args.rows.now.d in
    let space = c.args.space.now in
    let planes = c.in_ok-planes.planes.items in
    ok_map _ _ c.holds_all_products.result
    (λ b h t. closed_space (g.K.Ring.elements c.args.alg.now.k) L f c.args.alg.now.plane
    c.args.alg.now.has_y chart c.args.rows.now c.requires.rows space planes
    (subst (λ r. ArePlanesOf L f chart d r planes) c.basis.ensures c.in_ok-planes.ensures)
    (subst (λ p. HasMultiples L f chart d space p (length p) (chart_of L f chart).u)
    c.deref.ensures.value (c.in_ok-holds_variables.ensures.u c.if-not-branch.false))
    (subst (λ p. HasMultiples L f chart d space p (length p) (chart_of L f chart).theta)
    c.deref.ensures.value (c.in_ok-holds_variables.ensures.theta c.if-not-branch.false))
    (subst (λ p. (i : ℕ) → i < length p → HasProducts L f chart d space p i (i + 1))
    c.deref-2.ensures.value (h t))) c.holds_all_products.ensures
