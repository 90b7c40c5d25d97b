use Rattle.std.proofs.Common.{◌≡◌, ℕ, ◌*◌, ◌-◌, ◌≤◌, [], length, get_or, sym, ◌∙◌, ap, subst, arith}
use Rattle.std.proofs.Common.{All}
use Rattle.std.proofs.lemmas.List.{get_or-map, length-map}
use Rattle.std.proofs.lemmas.List.Elements.{All-push}
use Rattle.std.specs.Global.{Vec}
use Rattle.ff_theory.specs.Values.{plane_of}
use Rattle.ff_theory.specs.Vector.{IsVector, vector_of, vectors_of}
use Rattle.ff_charts.specs.Lattice.{HasShape}
use Rattle.ff_lin.specs.Space.{rows_of}
use Rattle.ff_elem.proofs.Reduction.{plane-size}
use Rattle.ff_data.specs.Orders.{y_degree}
use Rattle.ff_data.specs.Vectors.{IsPlaneWithin}
use Rattle.ff_data.proofs.ListLemmas.{pushed-at}
use Rattle.ff_fibre.specs.Fibres.{AreCoefficientsOf}
use Rattle.ff_frac.proofs.shrink.planes_of.Goals as goal

pub plane_of_vector-requires : goal.plane_of_vector-requires
plane_of_vector-requires g c =
    let F = g.K.Ring.elements c.args.alg.now.k in
    let items = λ (r : Vec ℕ). r.items in
    let rows : length c.args.alg.now.f - 1 ≡ length c.rows.result.now - 1 =
    ap (λ x. length x - 1) (sym c.rows.ensures) in
    subst (λ n. IsVector F (n * c.args.l) c.deref.result.now) rows
    (subst (IsVector F _) (sym (c.deref.ensures.value ∙ ap items c.v-item.is))
    (c.requires c.loop-v.v-index c.v-item.result c.loop-v-test.true))

pub loop-v-preserved : goal.loop-v-preserved
loop-v-preserved g c =
    let F = g.K.Ring.elements c.args.alg.now.k in
    let L = g.K.Ring.lawful c.args.alg.now.k in
    let n = y_degree L c.args.alg.now.f in
    let items = λ (r : Vec ℕ). r.items in
    let vs = c.args.vectors.now in
    let i = c.loop-v.v-index in
    let old = c.loop-v.planes.items in
    let p = c.in_ok-plane_of_vector.field-0 in
    let e = c.in_ok-push.ensures.items in
    let h = c.loop-v.invariant in
    let d = c.in_ok-plane_of_vector.ensures in
    let rows : length c.rows.result.now - 1 ≡ n = ap (λ x. length x - 1) c.rows.ensures in
    let shape : HasShape F.ring n c.args.l (plane_of F p) =
    subst (λ n. HasShape F.ring n c.args.l (plane_of F p)) rows d.shape in
    let few : length p ≤ n = omega (arith, shape.rows, plane-size F L p d.plane) in
    let row : get_or (rows_of vs) i [] ≡ c.deref.result.now =
    get_or-map items vs i c.v-item.result [] c.loop-v-test.true
    ∙ sym (c.deref.ensures.value ∙ ap items c.v-item.is) in
    record {
      len = omega (arith, c.in_ok-push.ensures.len, h.len);
      planes = subst (All (IsPlaneWithin F n)) (sym e) (All-push (IsPlaneWithin F n) old p h.planes
          (record { plane = d.plane; few = few }));
      value = pushed-at (λ j a. AreCoefficientsOf F n c.args.l (vectors_of F (rows_of vs) j) a) []
          old p _ i e h.len h.value (record {
            shape = shape;
            value = λ j. d.value j ∙ ap (λ r. vector_of F r j) (sym row);
          });
    }

pub returns-clause-value : goal.returns-clause-value
returns-clause-value g c i l = c.loop-v.invariant.value i (omega (
  arith,
  c.loop-v-test.false,
  c.loop-v.auto.v-index-end,
  length-map c.args.vectors.now (λ (r : Vec ℕ). r.items),
  l,
))
