use Rattle.std.proofs.Common.{◌≡◌, ◌++◌, All, sym, subst}
use Rattle.ff_theory.proofs.Results.{ok_map}
use Rattle.ff_data.specs.declared.point.Point.{Point}
use Rattle.ff_data.specs.Points.{IsPoint}
use Rattle.ff_data.proofs.LocalMaximal.{maximal_closed}
use Rattle.ff_forms.specs.Forms.{HasPointForm}
use Rattle.ff_points.specs.PointLists.{IsOneOf, AreRising}
use Rattle.ff_list.specs.Searches.{ArePlaces}
use Rattle.ff_list.proofs.PlaceForms.{all-places}
use Rattle.ff_list.proofs.places.places_of.Goals as goal

pub points-requires : goal.points-requires
points-requires g c = c.requires.infinite_is.order

pub points-requires-2 : goal.points-requires-2
points-requires-2 g c = c.requires.finite_is.order

pub returns : goal.returns
returns g c =
    let curve = c.args.curve.now in
    let L = g.K.Ring.lawful curve.alg.k in
    let F = g.K.Ring.elements curve.alg.k in
    let f = curve.alg.f in
    let infinite = c.infinite.inside.items.items in
    let finite = c.finite.inside.items.items in
    let i = sym c.infinite.view_is in
    let j = sym c.finite.view_is in
    let ic = maximal_closed F L f curve.alg.plane curve.alg.has_y curve.infinite
    c.requires.infinite_is in
    let fc = maximal_closed F L f curve.alg.plane curve.alg.has_y curve.finite
    c.requires.finite_is in
    ok_map (λ v. v.items ≡ infinite ++ finite)
    (λ v. ArePlaces L f curve.finite curve.infinite v.items) c.joined.result
    (λ v e. all-places L f curve.finite curve.infinite c.requires infinite finite v.items
    (subst (All (HasPointForm F curve.infinite)) i c.in_ok-infinite.ensures.form)
    (subst (All (HasPointForm F curve.finite)) j c.in_ok-finite.ensures.form)
    (subst (All (IsPoint L f curve.infinite)) i (c.in_ok-infinite.ensures.sound ic))
    (subst (All (IsPoint L f curve.finite)) j (c.in_ok-finite.ensures.sound fc))
    (subst (λ t. (p : Point) → IsPoint L f curve.infinite p → IsOneOf t p) i
    (c.in_ok-infinite.ensures.complete ic))
    (subst (λ t. (p : Point) → IsPoint L f curve.finite p → IsOneOf t p) j
    (c.in_ok-finite.ensures.complete fc)) (subst (AreRising F) i c.in_ok-infinite.ensures.rising)
    (subst (AreRising F) j c.in_ok-finite.ensures.rising) e)
    c.joined.ensures
