use Rattle.std.proofs.Common.{ℕ, ◌+◌, ◌*◌, [], sym, ◌∙◌, ap, subst, arith, Vec, Global}
use Rattle.std.proofs.lemmas.List.Elements.{All-push}
use Rattle.std.proofs.lemmas.List.{get_or-map, length-map}
use Rattle.ff_theory.specs.Ring.{power}
use Rattle.ff_theory.specs.Poly.{polynomials}
use Rattle.ff_theory.specs.Monomial.{variable}
use Rattle.ff_theory.specs.Vector.{vector_of, IsVector}
use Rattle.ff_lin.specs.Space.{AreVectors, rows_of}
use Rattle.ff_data.specs.Orders.{y_degree}
use Rattle.ff_common.specs.Common.{IsTimesVector}
use Rattle.ff_functions.proofs.FrameLists.{AreUpTo, up_to_none, up_to_more, up_to_all}
use Rattle.ff_functions.proofs.frame.with_vectors.Goals as goal

pub raised-requires : goal.raised-requires
raised-requires g c =
    let F = g.K.Ring.elements c.args.alg.now.k in
    let L = g.K.Ring.lawful c.args.alg.now.k in
    let items : Vec ℕ Global → _ = λ v. v.items in
    record {
      room = omega (arith, c.requires.room);
      vector = subst (IsVector F (y_degree L c.args.alg.now.f * c.args.short))
          (sym (c.deref.ensures.value ∙ ap items c.v-item.is))
          (c.requires.vectors c.loop-v.v-index c.v-item.result c.loop-v-test.true);
    }

pub loop-v-init : goal.loop-v-init
loop-v-init g c =
    let F = g.K.Ring.elements c.args.alg.now.k in
    let L = g.K.Ring.lawful c.args.alg.now.k in (
      c.requires.list,
      λ d m h. up_to_none F L c.args.alg.now.f d m c.args.short c.args.l
          (rows_of c.args.vectors.now) (rows_of c.args.list.items) h,
    )

pub loop-v-preserved : goal.loop-v-preserved
loop-v-preserved g c =
    let F = g.K.Ring.elements c.args.alg.now.k in
    let L = g.K.Ring.lawful c.args.alg.now.k in
    let f = c.args.alg.now.f in
    let n = y_degree L c.args.alg.now.f * c.args.l in
    let items : Vec ℕ Global → _ = λ v. v.items in
    let old = c.loop-v.list.items in
    let index = c.loop-v.v-index in
    let vectors = c.args.vectors.now in
    let is = get_or-map items vectors index c.v-item.result [] c.loop-v-test.true in (
      subst (AreVectors F n) (sym c.in_ok-push.ensures.items)
          (All-push (λ (v : Vec ℕ Global). IsVector F n v.items) old
          c.in_ok-raised.field-0 c.loop-v.invariant.0 c.in_ok-raised.ensures.vector),
      λ d m h. subst (λ rows. AreUpTo F L f d m c.args.short c.args.l (rows_of vectors)
          (index + 1) (rows_of rows)) (sym c.in_ok-push.ensures.items)
          (up_to_more F L f d m c.args.short c.args.l (rows_of vectors) index old
          c.in_ok-raised.field-0 (subst (λ u. IsTimesVector L f (power (polynomials F.ring)
          (variable F.ring) 0) c.args.short c.args.l (vector_of F u)
          (vector_of F c.in_ok-raised.field-0.items))
          (c.deref.ensures.value ∙ ap items c.v-item.is ∙ sym is) c.in_ok-raised.ensures.value)
          (c.loop-v.invariant.1 d m h)),
    )

pub returns-clause-vectors : goal.returns-clause-vectors
returns-clause-vectors g c = c.loop-v.invariant.0

pub returns-clause-held : goal.returns-clause-held
returns-clause-held g c =
    let F = g.K.Ring.elements c.args.alg.now.k in
    let L = g.K.Ring.lawful c.args.alg.now.k in
    let items : Vec ℕ Global → _ = λ v. v.items in
    let vectors = c.args.vectors.now in
    λ d m h. up_to_all F L c.args.alg.now.f d m c.args.short c.args.l (rows_of vectors)
    c.loop-v.v-index (omega (arith, c.loop-v-test.false, length-map vectors items))
    (omega (arith, c.loop-v.auto.v-index-end, length-map vectors items))
    (rows_of c.loop-v.list.items) (c.loop-v.invariant.1 d m h)
