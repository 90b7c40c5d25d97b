use Rattle.std.proofs.Common.{ℕ, ◌*◌, [], map, sym, ◌∙◌, ap, subst, arith, All}
use Rattle.std.proofs.Common.{Vec, Global}
use Rattle.std.proofs.lemmas.List.Elements.{All-push}
use Rattle.std.proofs.lemmas.List.{get_or-map, length-map}
use Rattle.ff_theory.specs.Values.{poly_of}
use Rattle.ff_theory.specs.Vector.{vector_of, vectors_of, IsVector}
use Rattle.ff_data.specs.Orders.{y_degree}
use Rattle.ff_common.specs.Common.{IsTimesVector}
use Rattle.ff_common.proofs.TimesSpaces.{row_pushed}
use Rattle.ff_common.proofs.times.times_vectors.Goals as goal

pub times_vector-requires : goal.times_vector-requires
times_vector-requires g c =
    let F = g.K.Ring.elements c.args.alg.now.k in
    let L = g.K.Ring.lawful c.args.alg.now.k in
    let items : Vec ℕ Global → _ = λ v. v.items in
    record {
      factor = c.requires.factor;
      room = c.requires.room;
      vector = subst (IsVector F (y_degree L c.args.alg.now.f * c.args.m))
          (sym (c.deref.ensures.value ∙ ap items c.v-item.is))
          (c.requires.vectors c.loop-v.v-index c.v-item.result c.loop-v-test.true);
    }

pub loop-v-preserved : goal.loop-v-preserved
loop-v-preserved g c =
    let F = g.K.Ring.elements c.args.alg.now.k in
    let L = g.K.Ring.lawful c.args.alg.now.k in
    let f = c.args.alg.now.f in
    let items : Vec ℕ Global → _ = λ v. v.items in
    let basis = map items c.args.vectors.now in
    let i = c.loop-v.v-index in
    let old = c.loop-v.list.items in
    let row = c.in_ok-times_vector.field-0 in
    let e = c.in_ok-push.ensures.items in
    let h = c.loop-v.invariant in
    let n = y_degree L f * c.args.h in
    let factor = poly_of F c.args.factor.now in
    let P : ℕ → (ℕ → F.carrier) → Type 0 = λ i r. IsTimesVector L f factor c.args.m c.args.h
    (vectors_of F basis i) r in
    record {
      len = omega (arith, c.in_ok-push.ensures.len, h.len);
      vectors = subst (All (λ v. IsVector F n (items v))) (sym e)
          (All-push (λ v. IsVector F n (items v)) old row h.vectors
          c.in_ok-times_vector.ensures.vector);
      value = λ j l. subst (λ t. P j (vectors_of F (map items t) j)) (sym e)
          (row_pushed F items old row P i h.len h.value
          (subst (λ t. IsTimesVector L f factor c.args.m c.args.h (vector_of F t)
          (vector_of F (items row)))
          (c.deref.ensures.value ∙ ap items c.v-item.is
          ∙ sym (get_or-map items c.args.vectors.now i c.v-item.result [] (omega arith)))
          c.in_ok-times_vector.ensures.value) j l);
    }

pub returns-clause-value : goal.returns-clause-value
returns-clause-value g c =
    let items : Vec ℕ Global → _ = λ v. v.items in
    let count = length-map c.args.vectors.now items in
    λ i l. c.loop-v.invariant.value i (omega (arith, l, count, c.loop-v-test.false))
