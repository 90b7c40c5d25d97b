use Rattle.std.proofs.Common.{List, ap, subst, sym}
use Rattle.ff_theory.proofs.Results.{ok_map}
use Rattle.ff_elem.specs.declared.elem.Elem.{Elem}
use Rattle.ff_data.specs.Lattices.{IsCommon}
use Rattle.ff_data.specs.Combinations.{AreElems}
use Rattle.ff_const.specs.Fixed.{IsSplit, FixesConstants, InSpanOfAll}
use Rattle.ff_const.specs.Irreducible.{IsIrreducible, IsStrict}
use Rattle.ff_const.proofs.CommonLemmas.{err-map, fixes-common, split-common}
use Rattle.ff_const.proofs.ReducedOrders.{no-factors, strict-split}
use Rattle.ff_const.proofs.irreducible.split.Goals as goal

pub split_by-requires : goal.split_by-requires
split_by-requires g c =
    let L = g.K.Ring.lawful c.args.alg.now.k in
    subst (AreElems L c.args.alg.now.f) (sym c.deref.ensures.value) c.in_ok-basis.ensures.elems

pub returns-clause-irreducible : goal.returns-clause-irreducible
returns-clause-irreducible g c =
    let K = g.K.Ring.elements c.args.alg.now.k in
    let L = g.K.Ring.lawful c.args.alg.now.k in
    let f = c.args.alg.now.f in
    let plane = c.args.alg.now.plane in
    let a = c.args.finite.now in
    let b = c.args.infinite.now in
    let ws = c.in_ok-basis.basis.items in
    ok_map (λ r. FixesConstants L f (InSpanOfAll L f c.deref.result.now)) (λ r. IsIrreducible L f)
    c.split_by.result
    (λ r h. no-factors K L f plane c.args.alg.now.has_y a b c.requires.first c.requires.finite
    c.requires.infinite (fixes-common K L f a b c.requires.first c.requires.second
    c.requires.finite.order c.requires.infinite.order plane c.args.alg.now.has_y ws
    c.in_ok-basis.ensures (subst (λ (us : List Elem). FixesConstants L f (InSpanOfAll L f us))
    c.deref.ensures.value h))) c.split_by.ensures.constants

pub returns-clause-constants : goal.returns-clause-constants
returns-clause-constants g c =
    let K = g.K.Ring.elements c.args.alg.now.k in
    let L = g.K.Ring.lawful c.args.alg.now.k in
    let f = c.args.alg.now.f in
    let a = c.args.finite.now in
    let b = c.args.infinite.now in
    let ws = c.in_ok-basis.basis.items in
    ok_map (λ r. FixesConstants L f (InSpanOfAll L f c.deref.result.now))
    (λ r. FixesConstants L f (IsCommon L f a b)) c.split_by.result
    (λ r h. fixes-common K L f a b c.requires.first c.requires.second c.requires.finite.order
    c.requires.infinite.order c.args.alg.now.plane c.args.alg.now.has_y ws c.in_ok-basis.ensures
    (subst (λ (us : List Elem). FixesConstants L f (InSpanOfAll L f us)) c.deref.ensures.value h))
    c.split_by.ensures.constants

pub returns-clause-strict : goal.returns-clause-strict
returns-clause-strict g c =
    let K = g.K.Ring.elements c.args.alg.now.k in
    let L = g.K.Ring.lawful c.args.alg.now.k in
    let f = c.args.alg.now.f in
    err-map (IsSplit L f (InSpanOfAll L f c.deref.result.now)) (IsStrict K) c.split_by.result
    (λ e h. strict-split K L f c.args.alg.now.plane c.args.alg.now.has_y c.args.finite.now
    c.args.infinite.now c.requires.first c.requires.finite c.requires.infinite
    (g.met.K.Ring.one_value c.args.alg.now.k) (InSpanOfAll L f c.deref.result.now) e h)
    c.split_by.ensures.split

pub returns-clause-split : goal.returns-clause-split
returns-clause-split g c =
    let K = g.K.Ring.elements c.args.alg.now.k in
    let L = g.K.Ring.lawful c.args.alg.now.k in
    let f = c.args.alg.now.f in
    let a = c.args.finite.now in
    let b = c.args.infinite.now in
    let ws = c.in_ok-basis.basis.items in
    err-map (IsSplit L f (InSpanOfAll L f c.deref.result.now)) (IsSplit L f (IsCommon L f a b))
    c.split_by.result
    (λ e h. split-common K L f a b c.requires.first c.requires.second c.requires.finite.order
    c.requires.infinite.order c.args.alg.now.plane c.args.alg.now.has_y ws c.in_ok-basis.ensures e
    (subst (λ (us : List Elem). IsSplit L f (InSpanOfAll L f us) e) c.deref.ensures.value h))
    c.split_by.ensures.split
