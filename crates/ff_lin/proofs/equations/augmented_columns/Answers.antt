use Rattle.std.proofs.Common.{◌≡◌, ℕ, suc, [], map, sym, ◌∙◌, ap, arith, subst, All, Vec, Global}
use Rattle.std.proofs.lemmas.List.Elements.{All-push}
use Rattle.std.proofs.lemmas.List.{get_or-map}
use Rattle.ff_theory.specs.Vector.{vector_of, vectors_of, IsVector}
use Rattle.ff_lin.specs.Kernel.{augmented_of}
use Rattle.ff_lin.proofs.Steps.{push-family}
use Rattle.ff_lin.proofs.equations.augmented_columns.Goals as goal

pub loop-col-preserved : goal.loop-col-preserved
loop-col-preserved g c =
    let K = g.K.Ring.elements c.args.k.now in
    let items : Vec ℕ Global → _ = λ v. v.items in
    let cols = map items c.args.cols.now in
    let e = c.in_ok-push-2.ensures.items in
    let col = c.in_ok-from_slice.field-0 in
    let i = c.loop-col.col-index in
    let col_is : items col ≡ items c.col-item.result = c.in_ok-from_slice.ensures.items
    ∙ c.deref.ensures.value in
    let vec : IsVector K c.args.m (items col) = subst (IsVector K c.args.m)
    (sym (col_is ∙ ap items c.col-item.is)) (c.requires.cols i c.col-item.result (omega arith))
    in
    record {
      len = omega (arith, c.in_ok-push-2.ensures.len);
      vectors = subst (All (λ v. IsVector K c.args.m (items v))) (sym e)
          (All-push (λ v. IsVector K c.args.m (items v)) c.loop-col.images.items col
          c.loop-col.invariant.vectors vec);
      value = λ l j q. ap (λ t. vectors_of K (map items t) l j) e
          ∙ push-family K items c.loop-col.images.items col (augmented_of K cols c.args.rhs.now)
          (suc i) c.loop-col.invariant.len c.loop-col.invariant.value
          (λ j. ap (λ t. vector_of K t j)
          (col_is ∙ ap items c.col-item.is
          ∙ sym (get_or-map items c.args.cols.now i c.col-item.result [] (omega arith)))) l j
          (omega (arith, q));
    }
