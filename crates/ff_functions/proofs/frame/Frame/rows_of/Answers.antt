use Rattle.std.proofs.Common.{◌≡◌, ℕ, suc, ◌+◌, ◌<◌, length, refl, sym, ◌∙◌, ap, subst, arith, Vec}
use Rattle.std.proofs.Common.{Global}
use Rattle.std.proofs.lemmas.List.{length-map}
use Rattle.ff_theory.specs.Vector.{vector_of, IsVector}
use Rattle.ff_lin.proofs.InsertRow.{basis_vectors}
use Rattle.ff_lin.proofs.Steps.{row_is, index_in}
use Rattle.ff_functions.specs.Searches.{AreRows}
use Rattle.ff_functions.proofs.HeldImages.{basis_none, basis_step, basis_held}
use Rattle.ff_functions.proofs.SearchLemmas.{no_rows}
use Rattle.ff_functions.proofs.frame.Frame.rows_of.Goals as goal

pub loop-v-init : goal.loop-v-init
loop-v-init g c =
    let F = g.K.Ring.elements c.args.alg.now.k in
    let L = g.K.Ring.lawful c.args.alg.now.k in
    let rows = c.new-echelon.result.rows.items in
    let e = ap length c.new-echelon.ensures in
    record { rows = no_rows F c.args.len 0 rows e; basis = basis_none F L c.args.space.now rows e }

pub with_vector-requires : goal.with_vector-requires
with_vector-requires g c =
    let F = g.K.Ring.elements c.args.alg.now.k in
    let items : Vec ℕ Global → _ = λ v. v.items in
    let len = c.args.len in
    let list = c.basis-v-items.result.now in
    let rows = basis_vectors F items list list c.args.space.now len
    refl c.basis-v-items.ensures (sym c.requires.len) c.requires.space in
    let row = subst (IsVector F len) (sym (c.deref.ensures.value ∙ ap items c.v-item.is))
    (rows c.loop-v.v-index c.v-item.result c.loop-v-test.true) in
    record {
      rows = subst (λ n. AreRows F n 0 c.loop-v.echelon.rows.items) (sym row.len)
          c.loop-v.invariant.rows;
      v = row.each;
    }

pub loop-v-preserved : goal.loop-v-preserved
loop-v-preserved g c =
    let F = g.K.Ring.elements c.args.alg.now.k in
    let items : Vec ℕ Global → _ = λ v. v.items in
    let len = c.args.len in
    let s = c.args.space.now in
    let list = c.basis-v-items.result.now in
    let i = c.loop-v.v-index in
    let basis = c.basis-v-items.ensures in
    let row = basis_vectors F items list list s len refl basis (sym c.requires.len)
    c.requires.space i c.v-item.result c.loop-v-test.true in
    let l : i < length s.basis = index_in items list s.basis i basis c.loop-v-test.true in
    let e : i + 1 ≡ suc i = omega arith in
    let at = row_is F items list s.basis i c.v-item.result basis l c.v-item.is in
    record {
      rows = subst (λ n. AreRows F n 0 c.in_ok-echelon.echelon.rows.items)
          (ap length (c.deref.ensures.value ∙ ap items c.v-item.is) ∙ row.len)
          c.in_ok-echelon.ensures.rows;
      basis = basis_step F (g.K.Ring.lawful c.args.alg.now.k) s c.loop-v.echelon.rows.items
          c.in_ok-echelon.echelon.rows.items i (i + 1) (vector_of F c.deref.result.now) e l
          (λ j. ap (λ t. vector_of F t j) (c.deref.ensures.value ∙ sym at))
          c.in_ok-echelon.ensures.value c.loop-v.invariant.basis;
    }

pub returns : goal.returns
returns g c =
    let F = g.K.Ring.elements c.args.alg.now.k in
    let items : Vec ℕ Global → _ = λ v. v.items in
    record {
      rows = c.loop-v.invariant.rows;
      held = basis_held F (g.K.Ring.lawful c.args.alg.now.k) c.args.space.now
          c.loop-v.echelon.rows.items c.loop-v.v-index (omega (
            arith,
            ap length c.basis-v-items.ensures,
            length-map c.basis-v-items.result.now items,
            c.loop-v-test.false,
          )) c.loop-v.invariant.basis;
    }
