use Rattle.std.proofs.Common.{◌≡◌, ℕ, ◌+◌, ◌*◌, ◌<◌, [], pred, length, get_or, sym, ◌∙◌, subst}
use Rattle.std.proofs.Common.{arith, All, Vec, Global}
use Rattle.std.proofs.lemmas.List.{get_or_default}
use Rattle.std.proofs.lemmas.List.Elements.{All-push}
use Rattle.ff_theory.specs.Values.{poly_of, plane_of}
use Rattle.ff_theory.specs.Vector.{IsVector, vector_of, vectors_of}
use Rattle.ff_lin.specs.Space.{rows_of}
use Rattle.ff_data.specs.Orders.{y_degree}
use Rattle.ff_common.proofs.TimesSpaces.{row_pushed}
use Rattle.ff_frac.specs.Shrinking.{HasMultiple, IsQuotientVector}
use Rattle.ff_frac.proofs.shrink.quotient_vectors.Goals as goal

pub loop-plane-preserved : goal.loop-plane-preserved
loop-plane-preserved g c =
    let F = g.K.Ring.elements c.args.alg.now.k in
    let L = g.K.Ring.lawful c.args.alg.now.k in
    let d = y_degree L c.args.alg.now.f in
    let by = c.args.by.now in
    let m = c.args.m.now in
    let n = d * pred (length m) in
    let planes = c.args.planes.now in
    let i = c.loop-plane.plane-index in
    let old = c.loop-plane.list.items in
    let row = c.in_ok-quotient_vector.field-0 in
    let h = c.loop-plane.invariant in
    let e = c.in_ok-push.ensures.items in
    let own : c.plane-item.result ≡ get_or planes i [] =
    c.plane-item.is ∙ get_or_default planes i c.plane-item.result [] c.loop-plane-test.true in
    record {
      len = omega (arith, c.in_ok-push.ensures.len, h.len);
      vectors = subst (All (λ (v : Vec ℕ Global). IsVector F n v.items)) (sym e)
          (All-push (λ (v : Vec ℕ Global). IsVector F n v.items) old row h.vectors
          c.in_ok-quotient_vector.ensures.vector);
      value = λ k. subst (λ rows. (j : ℕ) → j < i + 1 → IsQuotientVector F d (pred (length m))
          (poly_of F by) (plane_of F (get_or planes j [])) (vectors_of F (rows_of rows) j)) (sym e)
          (row_pushed F (λ (v : Vec ℕ Global). v.items) old row (λ j v. IsQuotientVector F d
          (pred (length m)) (poly_of F by) (plane_of F (get_or planes j [])) v) i h.len (h.value k)
          (subst (λ N. IsQuotientVector F d (pred (length m)) (poly_of F by) (plane_of F N)
          (vector_of F row.items)) own
          (c.in_ok-quotient_vector.ensures.value (subst (HasMultiple F d by m) (sym own)
          (k i c.loop-plane-test.true)))));
    }

pub returns-clause-value : goal.returns-clause-value
returns-clause-value g c k i l = c.loop-plane.invariant.value k i (omega (
  arith,
  c.loop-plane-test.false,
  c.loop-plane.auto.plane-index-end,
  l,
))
