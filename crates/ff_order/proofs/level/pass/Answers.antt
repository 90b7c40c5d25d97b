use Rattle.std.proofs.Common.{◌≡◌, ℕ, length, map, refl, sym, ap, subst, arith, Vec, Global}
use Rattle.std.proofs.lemmas.List.{length-map}
use Rattle.ff_theory.specs.Span.{SameSpan}
use Rattle.ff_theory.specs.Vector.{vectors_of}
use Rattle.ff_theory.proofs.Results.{ok_map}
use Rattle.ff_lin.specs.Space.{HasExactly, IsRelation, combinations_of}
use Rattle.ff_lin.proofs.InsertRow.{basis_vectors}
use Rattle.ff_order.specs.Level.{AreImages, lists_of}
use Rattle.ff_order.proofs.PassedSpace.{holds_passed}
use Rattle.ff_order.proofs.Residues.{modulus_positive}
use Rattle.ff_order.proofs.level.pass.Goals as goal

pub images-requires-clause-basis : goal.images-requires-clause-basis
images-requires-clause-basis g c =
    basis_vectors (g.K.Ring.elements c.args.alg.now.k) (λ v. v.items) c.basis.result.now
    c.basis.result.now c.args.space _ refl c.basis.ensures (sym c.requires.space.len)
    c.requires.space.space

pub overflow_sub-coeffs : goal.overflow_sub-coeffs
overflow_sub-coeffs g c =
    let positive = modulus_positive (g.K.Ring.elements c.args.alg.now.k)
    (g.K.Ring.lawful c.args.alg.now.k) c.args.alg.now.f c.args.alg.now.plane
    c.args.alg.now.has_y c.args.chart c.args.rows.now.d c.requires.rows.d
    c.requires.rows.modulus in
    omega (arith, positive, ap length c.coeffs.ensures)

pub combinations-requires-clause-coefficients : goal.combinations-requires-clause-coefficients
combinations-requires-clause-coefficients g c =
    let items : Vec ℕ Global → _ = λ v. v.items in
    let a = length-map c.basis.result.now items in
    let b = length-map c.basis-3.result.now items in
    let e = ap length c.basis.ensures in
    let h = ap length c.basis-3.ensures in
    let r = c.in_ok-relations.relations in
    let n : length c.basis-3.result.now ≡ r.len =
    omega (
      arith,
      a,
      b,
      e,
      h,
      c.in_ok-relations.ensures.space.len,
      ap length c.deref.ensures.value,
      c.in_ok-images.ensures.len,
    ) in
    basis_vectors (g.K.Ring.elements c.args.alg.now.k) (λ v. v.items) c.basis-2.result.now
    c.basis-2.result.now r _ refl c.basis-2.ensures n c.in_ok-relations.ensures.space.space

pub combinations-requires-clause-vectors : goal.combinations-requires-clause-vectors
combinations-requires-clause-vectors g c =
    basis_vectors (g.K.Ring.elements c.args.alg.now.k) (λ v. v.items) c.basis-3.result.now
    c.basis-3.result.now c.args.space _ refl c.basis-3.ensures c.len.ensures
    c.requires.space.space

pub returns-clause-holds : goal.returns-clause-holds
returns-clause-holds g c =
    let F = g.K.Ring.elements c.args.alg.now.k in
    let L = g.K.Ring.lawful c.args.alg.now.k in
    let f = c.args.alg.now.f in
    let d = c.args.rows.now.d in
    let items : Vec ℕ Global → _ = λ v. v.items in
    let lists = lists_of c.args.lists.now in
    let s = c.args.s in
    let space = c.args.space in
    let relations = c.in_ok-relations.relations in
    let images = map items c.in_ok-images.images.items in
    let basis = c.basis.result.now in
    let a = length-map basis items in
    let b = length-map c.in_ok-images.images.items items in
    let e = ap length c.basis.ensures in
    let deref = ap length c.deref.ensures.value in
    let count : length basis ≡ length space.basis = omega (arith, a, e) in
    ok_map _ _ c.combinations.result
    (λ r h. holds_passed F L f c.args.alg.now.plane c.args.alg.now.has_y c.args.chart
    c.args.rows.now c.requires.rows lists s space relations r images
    (omega (arith, b, c.in_ok-images.ensures.len, count))
    (subst (λ w. AreImages L f c.args.chart d lists s w images (length space.basis)) c.basis.ensures
    (subst (AreImages L f c.args.chart d lists s (map items basis) images) count
    c.in_ok-images.ensures.value))
    (omega (arith, c.in_ok-relations.ensures.space.len, deref, b))
    (subst (λ t. HasExactly F relations (IsRelation F (map items t))) c.deref.ensures.value
    c.in_ok-relations.ensures.exact)
    (subst (λ w. SameSpan F.ring (length r.basis) (vectors_of F r.basis) (length w)
    (combinations_of F space.basis w)) c.basis-2.ensures
    (subst (λ n. SameSpan F.ring (length r.basis) (vectors_of F r.basis) n
    (combinations_of F space.basis (map items c.basis-2.result.now)))
    (sym (length-map c.basis-2.result.now items))
    (subst (λ w. SameSpan F.ring (length r.basis) (vectors_of F r.basis)
    (length c.basis-2.result.now) (combinations_of F w (map items c.basis-2.result.now)))
    c.basis-3.ensures h)))) c.combinations.ensures.same
