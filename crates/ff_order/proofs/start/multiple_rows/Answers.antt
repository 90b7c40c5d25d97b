use Rattle.std.proofs.Common.{
  ◌≡◌,
  ℕ,
  ◌*◌,
  pred,
  length,
  map,
  sym,
  ◌∙◌,
  ap,
  subst,
  arith,
  All,
  Vec,
  Global,
}
use Rattle.std.proofs.lemmas.List.Elements.{All-push}
use Rattle.ff_theory.specs.Vector.{vector_of, vectors_of, IsVector}
use Rattle.ff_data.specs.Orders.{y_degree}
use Rattle.ff_order.specs.Steps.{AreMultiples, IsMultipleRow}
use Rattle.ff_order.proofs.Lengths.{row_pushed}
use Rattle.ff_order.proofs.start.multiple_rows.Goals as goal

pub multiple_row-requires : goal.multiple_row-requires
multiple_row-requires g c =
    let F = g.K.Ring.elements c.args.alg.now.k in
    let L = g.K.Ring.lawful c.args.alg.now.k in
    let f = c.args.alg.now.f in
    let items : Vec ℕ Global → _ = λ v. v.items in
    let rows = c.args.rows.now in
    let h = c.loop-s.invariant in
    let e = c.deref.ensures.value in
    let len = ap length e in
    let n = y_degree L f * pred (length rows.d) in
    record {
      rows = c.requires.rows;
      u = c.in_ok-variables.ensures.u;
      u_is = c.in_ok-variables.ensures.u_is;
      theta = c.in_ok-variables.ensures.theta;
      theta_is = c.in_ok-variables.ensures.theta_is;
      index = omega (arith, len, h.len, c.loop-s-test.true, c.requires.count);
      vectors = subst (All (λ v. IsVector F n (items v))) (sym e)
          (subst (λ n. All (λ v. IsVector F n (items v)) c.loop-s.list.items) c.requires.count
          h.vectors);
      multiples = subst (λ t. AreMultiples L f c.args.chart rows.d rows.multiple (map items t)
          (length t)) (sym e) (subst (AreMultiples L f c.args.chart rows.d rows.multiple
          (map items c.loop-s.list.items)) (sym h.len) h.value);
    }

pub loop-s-preserved : goal.loop-s-preserved
loop-s-preserved g c =
    let F = g.K.Ring.elements c.args.alg.now.k in
    let L = g.K.Ring.lawful c.args.alg.now.k in
    let items : Vec ℕ Global → _ = λ v. v.items in
    let e = c.in_ok-push.ensures.items in
    let row = c.in_ok-row.row in
    let old = c.loop-s.list.items in
    let h = c.loop-s.invariant in
    let P = IsMultipleRow L c.args.alg.now.f c.args.chart c.args.rows.now.d
    c.args.rows.now.multiple in
    record {
      len = omega (arith, c.in_ok-push.ensures.len, h.len);
      vectors = subst (All (λ v. IsVector F c.args.count (items v))) (sym e)
          (All-push (λ v. IsVector F c.args.count (items v)) old row h.vectors
          (subst (λ n. IsVector F n (items row)) (sym c.requires.count)
          c.in_ok-row.ensures.vector));
      value = λ j l. subst (λ t. P j (vectors_of F (map items t) j)) (sym e)
          (row_pushed F items old row P c.loop-s._s h.len h.value
          (subst (λ n. P n (vector_of F (items row))) (ap length c.deref.ensures.value ∙ h.len)
          c.in_ok-row.ensures.value) j l);
    }

pub returns-clause-value : goal.returns-clause-value
returns-clause-value g c =
    let all : c.loop-s._s ≡ c.args.count =
    omega (arith, c.loop-s-test.false, c.loop-s.auto._s-end) in
    λ s l. c.loop-s.invariant.value s (omega (arith, all, l))
