use Rattle.std.proofs.Common.{◌≡◌, ◌*◌, ◌-◌, ℕ, pred, length, refl, sym, ◌∙◌, ap, subst, arith}
use Rattle.std.proofs.Common.{Vec, Global}
use Rattle.ff_theory.proofs.Results.{ok_map}
use Rattle.ff_lin.specs.Space.{AreVectors, rows_of}
use Rattle.ff_lin.proofs.InsertRow.{basis_vectors}
use Rattle.ff_data.specs.Orders.{y_degree}
use Rattle.ff_functions.specs.Elements.{HoldMultiples, AreNumerators}
use Rattle.ff_data.proofs.NumeratorLemmas.{order_length}
use Rattle.ff_functions.proofs.frame.numerators.Goals as goal

pub overflow_sub-short : goal.overflow_sub-short
overflow_sub-short g c =
    let F = g.K.Ring.elements c.args.alg.now.k in
    let L = g.K.Ring.lawful c.args.alg.now.k in
    let d = order_length F L c.args.alg.now.f c.args.alg.now.plane c.args.alg.now.has_y
    c.args.finite.now c.requires.order in
    omega (arith, ap length c.coeffs.ensures, d)

pub multiples-requires : goal.multiples-requires
multiples-requires g c =
    let F = g.K.Ring.elements c.args.alg.now.k in
    let L = g.K.Ring.lawful c.args.alg.now.k in
    record {
      d = c.requires.order.d;
      nonzero = order_length F L c.args.alg.now.f c.args.alg.now.plane c.args.alg.now.has_y
          c.args.finite.now c.requires.order;
      room = omega (arith, c.requires.l);
      len = c.in-Some.ensures.1 ∙ ap (λ r. (length r - 1) * c.args.l) c.rows.ensures;
    }

pub with_vectors-requires : goal.with_vectors-requires
with_vectors-requires g c =
    let F = g.K.Ring.elements c.args.alg.now.k in
    let L = g.K.Ring.lawful c.args.alg.now.k in
    let items : Vec ℕ Global → _ = λ v. v.items in
    let n = y_degree L c.args.alg.now.f in
    let o = c.args.finite.now in
    let space = c.requires.order.space in
    let short : pred (length o.d) ≡ length c.coeffs.result.now - 1 =
    omega (arith, ap length c.coeffs.ensures) in
    record {
      list = subst (λ n. AreVectors F n c.in_ok-list-in-Some.list.items)
          (c.in-Some.ensures.1 ∙ ap (λ r. (length r - 1) * c.args.l) c.rows.ensures)
          c.in_ok-list-in-Some.ensures.vectors;
      vectors = subst (λ l. AreVectors F (n * l) c.basis.result.now) short
          (basis_vectors F items c.basis.result.now c.basis.result.now o.space _ refl
          c.basis.ensures (sym space.len) space.space);
      room = omega (arith, c.requires.l, short);
    }

pub returns-in_ok-list-in-Some-clause-held : goal.returns-in_ok-list-in-Some-clause-held
returns-in_ok-list-in-Some-clause-held g c =
    let F = g.K.Ring.elements c.args.alg.now.k in
    let L = g.K.Ring.lawful c.args.alg.now.k in
    let f = c.args.alg.now.f in
    let o = c.args.finite.now in
    let short : length c.coeffs.result.now - 1 ≡ pred (length o.d) =
    omega (arith, ap length c.coeffs.ensures) in
    ok_map _ _ c.with_vectors.result (λ r h. subst (λ rows. AreNumerators L f o.d c.args.m
    (pred (length o.d)) c.args.l rows (rows_of r.items)) c.basis.ensures
    (subst (λ n. AreNumerators L f o.d c.args.m n c.args.l (rows_of c.basis.result.now)
    (rows_of r.items)) short (h o.d c.args.m (subst (λ e. HoldMultiples F o.d c.args.l
    (y_degree L f) c.args.m e (y_degree L f) 0 (rows_of c.in_ok-list-in-Some.list.items))
    c.requires.slope c.in_ok-list-in-Some.ensures.held)))) c.with_vectors.ensures.held
