use Rattle.std.proofs.Common.{sym, subst, arith, IfSome}
use Rattle.ff_list.specs.Lists.{IsPointOf}
use Rattle.ff_list.specs.Searches.{IsFormed, IsPlace, IsSystemIfAny}
use Rattle.ff_list.proofs.PlaceForms.{none-more, first-at}
use Rattle.ff_list.proofs.places.first_of.Goals as goal

pub system_at-requires : goal.system_at-requires
system_at-requires g c =
    let curve = c.args.curve.now in
    record {
      orders = c.requires.orders;
      point = subst (IsPlace (g.K.Ring.elements curve.alg.k) curve.finite curve.infinite)
          (sym c.index-places-index.is)
          (c.requires.each c.loop-index.index c.index-places-index.result c.loop-index-test.true);
      like = tt;
    }

pub loop-index-init : goal.loop-index-init
loop-index-init g c = λ irreducible j d s l. absurd (omega (arith, l))

pub loop-index-preserved : goal.loop-index-preserved
loop-index-preserved g c = λ irreducible.
    let curve = c.args.curve.now in
    let L = g.K.Ring.lawful curve.alg.k in
    let f = curve.alg.f in
    let o = curve.finite in
    let q = curve.infinite in
    let i = c.loop-index.index in
    let p = c.index-places-index.result in
    let at : IsPointOf L f o q p = subst (IsPointOf L f o q) (sym c.index-places-index.is)
    (c.requires.points i p c.loop-index-test.true) in
    none-more L f o q c.requires.orders c.args.places.now i p c.index-places-index.is
    c.loop-index-test.true (c.loop-index.invariant irreducible)
    (λ s x. subst (IsSystemIfAny L f o q p (λ s. Unit {0})) c.in-None.is
    (c.in_ok-system.ensures.exact irreducible at) s x tt)

pub returns-in-Some : goal.returns-in-Some
returns-in-Some g c =
    let curve = c.args.curve.now in
    let alg = curve.alg in
    let L = g.K.Ring.lawful alg.k in
    let f = alg.f in
    let o = curve.finite in
    let q = curve.infinite in
    let i = c.loop-index.index in
    let p = c.index-places-index.result in
    let at : IsPointOf L f o q p = subst (IsPointOf L f o q) (sym c.index-places-index.is)
    (c.requires.points i p c.loop-index-test.true) in
    record {
      index = c.loop-index-test.true;
      system = subst (λ o. IfSome o (IsFormed L f)) c.in-Some.is c.in_ok-system.ensures.form;
      first = λ irreducible. first-at L f o q c.requires.orders c.args.places.now i p
          c.index-places-index.is c.loop-index-test.true (c.loop-index.invariant irreducible)
          c.in-Some.system (subst (IsSystemIfAny L f o q p (λ s. Unit {0})) c.in-Some.is
          (c.in_ok-system.ensures.exact irreducible at));
    }

pub returns : goal.returns
returns g c = record {
  index = tt;
  system = tt;
  first = λ irreducible j d s l. c.loop-index.invariant irreducible j d s
      (omega (arith, l, c.loop-index-test.false));
}
