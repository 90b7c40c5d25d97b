use Rattle.std.proofs.Common.{◌≡◌, ℕ, ◌*◌, pred, length, map, sym, ◌∙◌, ap, subst, arith, All, Vec}
use Rattle.std.proofs.Common.{Global}
use Rattle.std.proofs.lemmas.List.Elements.{All-push}
use Rattle.ff_theory.specs.Vector.{vector_of, vectors_of, IsVector}
use Rattle.ff_data.specs.Orders.{y_degree}
use Rattle.ff_order.specs.Steps.{IsPowerRow, ArePowers}
use Rattle.ff_order.proofs.Lengths.{row_pushed}
use Rattle.ff_order.proofs.images.power_rows.Goals as goal

pub power_row-requires-clause-powers : goal.power_row-requires-clause-powers
power_row-requires-clause-powers g c =
    let L = g.K.Ring.lawful c.args.alg.now.k in
    let items : Vec ℕ Global → _ = λ v. v.items in
    let h = c.loop-s.invariant in
    subst (λ t. ArePowers L c.args.alg.now.f c.args.chart c.args.rows.now.d c.args.top.now
    (map items t) (length t)) (sym c.deref.ensures.value)
    (subst (ArePowers L c.args.alg.now.f c.args.chart c.args.rows.now.d c.args.top.now
    (map items c.loop-s.list.items)) (sym h.len) h.value)

pub loop-s-preserved : goal.loop-s-preserved
loop-s-preserved g c =
    let F = g.K.Ring.elements c.args.alg.now.k in
    let L = g.K.Ring.lawful c.args.alg.now.k in
    let items : Vec ℕ Global → _ = λ v. v.items in
    let e = c.in_ok-push.ensures.items in
    let row = c.in_ok-power_row.field-0 in
    let old = c.loop-s.list.items in
    let h = c.loop-s.invariant in
    let n = y_degree L c.args.alg.now.f * pred (length c.args.top.now) in
    let P = IsPowerRow L c.args.alg.now.f c.args.chart c.args.rows.now.d c.args.top.now in
    record {
      len = omega (arith, c.in_ok-push.ensures.len, h.len);
      vectors = subst (All (λ v. IsVector F n (items v))) (sym e)
          (All-push (λ v. IsVector F n (items v)) old row h.vectors
          c.in_ok-power_row.ensures.vector);
      value = λ j l. subst (λ t. P j (vectors_of F (map items t) j)) (sym e)
          (row_pushed F items old row P c.loop-s._s h.len h.value
          (subst (λ s. P s (vector_of F (items row)))
          (ap length c.deref.ensures.value ∙ h.len) c.in_ok-power_row.ensures.value) j l);
    }

pub returns-clause-value : goal.returns-clause-value
returns-clause-value g c =
    let all : c.loop-s._s ≡ c.args.count =
    omega (arith, c.loop-s-test.false, c.loop-s.auto._s-end) in
    λ s l. c.loop-s.invariant.value s (omega (arith, all, l))
