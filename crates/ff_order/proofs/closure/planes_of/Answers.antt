use Rattle.std.proofs.Common.{ℕ, ◌*◌, pred, [], length, map, sym, ◌∙◌, ap, subst}
use Rattle.std.proofs.Common.{arith, Vec, Global, get_or}
use Rattle.std.proofs.lemmas.List.{get_or-map, length-map}
use Rattle.ff_theory.specs.Vector.{vectors_of, vector_of, IsVector}
use Rattle.ff_data.specs.Orders.{y_degree}
use Rattle.ff_order.specs.Closing.{IsPlaneOf}
use Rattle.ff_order.proofs.ResidueVectors.{pushed}
use Rattle.ff_order.proofs.closure.planes_of.Goals as goal

pub residue_plane-requires-clause-v : goal.residue_plane-requires-clause-v
residue_plane-requires-clause-v g c =
    let F = g.K.Ring.elements c.args.alg.now.k in
    let items : Vec ℕ Global → _ = λ v. v.items in
    let n = y_degree (g.K.Ring.lawful c.args.alg.now.k) c.args.alg.now.f
    * pred (length c.args.rows.now.d) in
    subst (IsVector F n) (sym (c.deref.ensures.value ∙ ap items c.v-item.is))
    (c.requires.vectors c.loop-v.v-index c.v-item.result c.loop-v-test.true)

pub loop-v-preserved : goal.loop-v-preserved
loop-v-preserved g c =
    let F = g.K.Ring.elements c.args.alg.now.k in
    let L = g.K.Ring.lawful c.args.alg.now.k in
    let f = c.args.alg.now.f in
    let items : Vec ℕ Global → _ = λ v. v.items in
    let d = c.args.rows.now.d in
    let vectors = c.args.vectors.now in
    let i = c.loop-v.v-index in
    let plane = c.in_ok-residue_plane.field-0 in
    let e = c.in_ok-push.ensures.items in
    let h = c.loop-v.invariant in
    record {
      len = omega (arith, c.in_ok-push.ensures.len, h.len);
      each = λ j l. subst (λ t. IsPlaneOf L f c.args.chart d (vectors_of F (map items vectors) j)
          (get_or t j [])) (sym e)
          (pushed c.loop-v.planes.items plane []
          (λ j a. IsPlaneOf L f c.args.chart d (vectors_of F
          (map items vectors) j) a) i h.len h.each
          (subst (λ t. IsPlaneOf L f c.args.chart d (vector_of F t) plane)
          (c.deref.ensures.value ∙ ap items c.v-item.is
          ∙ sym (get_or-map items vectors i c.v-item.result [] c.loop-v-test.true))
          c.in_ok-residue_plane.ensures) j l);
    }

pub returns : goal.returns
returns g c =
    let items : Vec ℕ Global → _ = λ v. v.items in
    let count = length-map c.args.vectors.now items in
    record {
      len = omega (
        arith,
        c.loop-v.invariant.len,
        count,
        c.loop-v-test.false,
        c.loop-v.auto.v-index-end,
      );
      each = λ i l. c.loop-v.invariant.each i (omega (arith, l, count, c.loop-v-test.false));
    }
