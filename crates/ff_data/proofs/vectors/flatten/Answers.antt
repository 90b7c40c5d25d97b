use Rattle.std.proofs.Common.{◌≡◌, ℕ, ◌-◌, ◌<◌, ◌↔◌, ◌∙◌, suc, length, get_or, sym, ap, subst}
use Rattle.std.proofs.Common.{arith}
use Rattle.std.proofs.Common.{[], List}
use Rattle.std.proofs.lemmas.List.{length-map, get_or_default}
use Rattle.std.specs.Global.{Vec}
use Rattle.ff_theory.proofs.Results.{ok_map}
use Rattle.ff_lin.specs.Space.{rows_of, IsRelation}
use Rattle.ff_elem.specs.declared.elem.Elem.{Elem}
use Rattle.ff_data.specs.Combinations.{IsRelationOf}
use Rattle.ff_data.specs.Vectors.{AreCoefficients, IsPlaneWithin, IsNumerator}
use Rattle.ff_data.proofs.Denominators.{flattened}
use Rattle.ff_data.proofs.vectors.flatten.Goals as goal

pub vectors_of_planes-requires : goal.vectors_of_planes-requires
vectors_of_planes-requires g c =
    let K = g.K.Ring.elements c.args.alg.now.k in
    let L = g.K.Ring.lawful c.args.alg.now.k in
    let f = c.args.alg.now.f in
    let none : Elem = record { den = []; num = [] } in
    let nums = c.in_ok-planes.ensures in
    let e = c.deref.ensures.value in
    λ k d h.
    let q : k < length c.args.list.now = omega (arith, h, ap length e, nums.count) in
    let i : k < length c.in_ok-planes.planes.items = omega (arith, h, ap length e) in
    let v : IsNumerator L f c.in_ok-den.den (get_or c.args.list.now k none)
    (get_or c.in_ok-planes.planes.items k []) = nums.each k none q in
    subst (IsPlaneWithin K (length c.rows.result.now - 1))
    (get_or_default c.in_ok-planes.planes.items k [] d i
    ∙ ap (λ (ps : List (List (List ℕ))). get_or ps k d) (sym e)) (record {
      plane = v.plane;
      few = omega (arith, v.few, ap length c.rows.ensures);
    })

pub returns-clause-count : goal.returns-clause-count
returns-clause-count g c =
    let K = g.K.Ring.elements c.args.alg.now.k in
    let f = c.args.alg.now.f in
    let n = length c.rows.result.now - 1 in
    ok_map (λ r. AreCoefficients K n c.deref.result.now (rows_of r.1.items))
    (λ r. length r.1.items ≡ length c.args.list.now) c.vectors_of_planes.result
    (λ r h. sym (length-map r.1.items (λ (v : Vec ℕ). v.items)) ∙ h.count
    ∙ ap length c.deref.ensures.value ∙ c.in_ok-planes.ensures.count)
    c.vectors_of_planes.ensures.value

pub returns-clause-exact : goal.returns-clause-exact
returns-clause-exact g c =
    let K = g.K.Ring.elements c.args.alg.now.k in
    let L = g.K.Ring.lawful c.args.alg.now.k in
    let f = c.args.alg.now.f in
    let ws = c.args.list.now in
    let n = length c.rows.result.now - 1 in
    let planes = c.in_ok-planes.planes.items in
    let size : length f ≡ suc n = omega (arith, c.args.alg.now.has_y, ap length c.rows.ensures) in
    ok_map (λ r. AreCoefficients K n c.deref.result.now (rows_of r.1.items))
    (λ r. (d : ℕ → K.carrier) → IsRelation K (rows_of r.1.items) d ↔ IsRelationOf L f ws d)
    c.vectors_of_planes.result
    (λ r h. flattened K L f ws c.in_ok-den.den planes (rows_of r.1.items) n c.args.alg.now.plane
    size c.in_ok-den.ensures c.in_ok-planes.ensures
    (subst (λ p. AreCoefficients K n p (rows_of r.1.items)) c.deref.ensures.value h))
    c.vectors_of_planes.ensures.value
