use Rattle.std.proofs.Common.{ℕ, ◌+◌, List, length, map, arith, sym, ◌∙◌, ap, subst, All, Vec}
use Rattle.std.proofs.Common.{Global}
use Rattle.ff_theory.specs.Ring.{IsElement}
use Rattle.ff_theory.specs.Vector.{vector_of, IsVector}
use Rattle.ff_lin.specs.Space.{AreRoots}
use Rattle.ff_lin.proofs.Roots.{roots-push}
use Rattle.ff_lin.proofs.rows.root_rows.Goals as goal

pub root_row-requires : goal.root_row-requires
root_row-requires g c =
    let K = g.K.Ring.elements c.args.k.now in
    let items : Vec ℕ Global → List ℕ = λ v. v.items in
    let row = c.row-item.result in
    subst (All (IsElement K)) (sym (c.deref.ensures.value ∙ ap items c.row-item.is))
    (c.requires c.loop-row.row-index row c.loop-row-test.true)

pub loop-row-preserved : goal.loop-row-preserved
loop-row-preserved g c =
    let K = g.K.Ring.elements c.args.k.now in
    let items : Vec ℕ Global → List ℕ = λ v. v.items in
    let rows = map items c.args.rows.now in
    let i = c.loop-row.row-index in
    let row = c.row-item.result in
    let new = c.in_ok-root_row.field-0 in
    let e = c.in_ok-push.ensures.items in
    record {
      len = omega (arith, c.in_ok-push.ensures.len, c.loop-row.invariant.len);
      value = subst (λ t. AreRoots K rows (i + 1) (map items t)) (sym e)
          (roots-push K (g.met.K.Ring.laws c.args.k.now) items c.args.rows.now
          c.loop-row.roots.items row new i
          c.loop-row.invariant.len c.loop-row-test.true c.row-item.is
          (subst (λ t. IsVector K (length t) (items new)) c.deref.ensures.value
          c.in_ok-root_row.ensures.vector)
          (λ j. c.in_ok-root_row.ensures.value j ∙ ap (λ t. vector_of K t j) c.deref.ensures.value)
          c.loop-row.invariant.value);
    }
