use Rattle.std.proofs.Common.{ℕ, [], map, ◌∙◌, ap, arith, subst, sym, All, Vec, Global}
use Rattle.std.proofs.lemmas.List.Elements.{All-push}
use Rattle.std.proofs.lemmas.List.{get_or-map}
use Rattle.ff_theory.specs.Vector.{vector_of, vectors_of, IsVector}
use Rattle.ff_lin.specs.Space.{remainder_of}
use Rattle.ff_lin.proofs.Steps.{push-family}
use Rattle.ff_lin.proofs.Space.remainders.Goals as goal

pub loop-image-preserved : goal.loop-image-preserved
loop-image-preserved g c =
    let K = g.K.Ring.elements c.args.k.now in
    let items : Vec ℕ Global → _ = λ v. v.items in
    let s = c.args.self.now in
    let images = map items c.args.images.now in
    let e = c.in_ok-push.ensures.items in
    record {
      len = omega (arith, c.in_ok-push.ensures.len);
      vectors = subst (All (λ v. IsVector K s.len (items v))) (sym e)
          (All-push (λ v. IsVector K s.len (items v)) c.loop-image.remainders.items
          c.in_ok-remainder.field-0 c.loop-image.invariant.vectors
          c.in_ok-remainder.ensures.vector);
      value = λ i j l. ap (λ t. vectors_of K (map items t) i j) e
          ∙ push-family K items c.loop-image.remainders.items c.in_ok-remainder.field-0
          (λ i. remainder_of K s (vectors_of K images i)) c.loop-image.image-index
          c.loop-image.invariant.len c.loop-image.invariant.value
          (λ j. c.in_ok-remainder.ensures.value j
          ∙ ap (λ t. remainder_of K s (vector_of K t) j)
          (c.in_ok-from_slice.ensures.items ∙ c.deref.ensures.value ∙ ap items c.image-item.is
          ∙ sym (get_or-map items c.args.images.now c.loop-image.image-index c.image-item.result
          [] (omega arith)))) i j l;
    }
