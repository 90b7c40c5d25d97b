use Rattle.std.proofs.Common.{IfSome}
use Rattle.ff_theory.proofs.Results.{ok_map}
use Rattle.ff_forms.specs.Forms.{AreAlike}
use Rattle.ff_list.proofs.FormedSystems.{formed}
use Rattle.ff_list.proofs.PlaceForms.{finite-differs, infinite-differs}
use Rattle.ff_list.proofs.PlaceForms.{finite-form, infinite-form, finite-place, infinite-place}
use Rattle.ff_list.proofs.PlaceForms.{finite-answer, infinite-answer}
use Rattle.ff_list.proofs.places.system_at.Goals as goal

pub find_system-requires : goal.find_system-requires
find_system-requires g c =
    let curve = c.args.curve.now in
    let L = g.K.Ring.lawful curve.alg.k in
    let h = c.requires.orders in
    let p = c.args.point.now in
    record {
      order = h.finite_is.order;
      other = h.infinite_is.order;
      charts = finite-differs L curve.alg.f curve.finite curve.infinite h;
      point = finite-form L curve.alg.f curve.finite curve.infinite h p c.in-Finite.is
          c.requires.point;
      like = c.requires.like;
    }

pub find_system-requires-in-Infinite : goal.find_system-requires-in-Infinite
find_system-requires-in-Infinite g c =
    let curve = c.args.curve.now in
    let L = g.K.Ring.lawful curve.alg.k in
    let h = c.requires.orders in
    let p = c.args.point.now in
    record {
      order = h.infinite_is.order;
      other = h.finite_is.order;
      charts = infinite-differs L curve.alg.f curve.finite curve.infinite h;
      point = infinite-form L curve.alg.f curve.finite curve.infinite h p c.in-Infinite.is
          c.requires.point;
      like = c.requires.like;
    }

pub returns-in-Finite : goal.returns-in-Finite
returns-in-Finite g c =
    let curve = c.args.curve.now in
    let L = g.K.Ring.lawful curve.alg.k in
    let f = curve.alg.f in
    let h = c.requires.orders in
    let p = c.args.point.now in
    record {
      form = formed L f c.find_system.result c.find_system.ensures.within
          c.find_system.ensures.ring c.find_system.ensures.described;
      exact = λ irreducible at. ok_map _ _ c.find_system.result (finite-answer L f curve.finite
          curve.infinite h p (λ s. IfSome c.args.like (λ t. AreAlike s t.now)) c.in-Finite.is at)
          (c.find_system.ensures.exact (finite-place L f curve.finite curve.infinite h p
          c.in-Finite.is irreducible at));
    }

pub returns-in-Infinite : goal.returns-in-Infinite
returns-in-Infinite g c =
    let curve = c.args.curve.now in
    let L = g.K.Ring.lawful curve.alg.k in
    let f = curve.alg.f in
    let h = c.requires.orders in
    let p = c.args.point.now in
    let found = c.find_system-in-Infinite in
    record {
      form = formed L f found.result found.ensures.within found.ensures.ring
          found.ensures.described;
      exact = λ irreducible at. ok_map _ _ found.result (infinite-answer L f curve.finite
          curve.infinite h p (λ s. IfSome c.args.like (λ t. AreAlike s t.now)) c.in-Infinite.is at)
          (found.ensures.exact (infinite-place L f curve.finite curve.infinite h p
          c.in-Infinite.is irreducible at));
    }
