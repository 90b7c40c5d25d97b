use Rattle.std.proofs.Common.{◌≡◌, ◌+◌, ◌*◌, ℕ, pred, length, refl, sym, ap, subst, arith}
use Rattle.std.proofs.Common.{Vec, Global}
use Rattle.ff_theory.specs.Values.{poly_of, plane_of}
use Rattle.ff_lin.specs.Space.{rows_of, AreVectors}
use Rattle.ff_lin.proofs.InsertRow.{basis_vectors}
use Rattle.ff_data.specs.Orders.{y_degree}
use Rattle.ff_frac.specs.Numerators.{IsWithPlane}
use Rattle.ff_frac.proofs.NumeratorLemmas.{first_numerators}
use Rattle.ff_frac.proofs.numerators.Numerators.start.Goals as goal

pub with_power-requires-clause-vectors : goal.with_power-requires-clause-vectors
with_power-requires-clause-vectors g c =
    let F = g.K.Ring.elements c.args.alg.now.k in
    let L = g.K.Ring.lawful c.args.alg.now.k in
    let items : Vec ℕ Global → _ = λ v. v.items in
    let o = c.args.order.now in
    let space = c.requires.order.space in
    let e : pred (length o.d) ≡ pred (length o.d + 0) = omega arith in
    subst (λ l. AreVectors F (y_degree L c.args.alg.now.f * l) c.basis.result.now) e
    (basis_vectors F items c.basis.result.now c.basis.result.now o.space _ refl
    c.basis.ensures (sym space.len) space.space)

pub returns-clause-form : goal.returns-clause-form
returns-clause-form g c = record {
  powers = c.in_ok-powers.ensures.form;
  vectors = c.in_ok-vectors.ensures.vectors;
}

pub returns-clause-exact : goal.returns-clause-exact
returns-clause-exact g c place =
    let F = g.K.Ring.elements c.args.alg.now.k in
    let L = g.K.Ring.lawful c.args.alg.now.k in
    let f = c.args.alg.now.f in
    let o = c.args.order.now in
    let s = c.in_ok-powers.powers in
    first_numerators F L f c.args.alg.now.plane c.args.alg.now.has_y o c.args.point.now place _
    (returns-clause-form g c) (c.in_ok-powers.ensures.exact place)
    (subst (λ rows. IsWithPlane L f (poly_of F s.root) (pred (length o.d + 0))
    (pred (length s.modulus)) (plane_of F s.power) rows (rows_of c.in_ok-vectors.vectors.items))
    c.basis.ensures c.in_ok-vectors.ensures.value)
