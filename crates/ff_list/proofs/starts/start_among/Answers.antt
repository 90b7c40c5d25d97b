use Rattle.std.proofs.Common.{None, subst}
use Rattle.ff_list.specs.Searches.{IsFirstIfAny}
use Rattle.ff_list.proofs.PlaceForms.{no-system}
use Rattle.ff_list.proofs.starts.start_among.Goals as goal

pub returns-in-Ok-None-clause-fault : goal.returns-in-Ok-None-clause-fault
returns-in-Ok-None-clause-fault g c =
    let curve = c.args.curve.now in
    let L = g.K.Ring.lawful curve.alg.k in
    let f = curve.alg.f in
    let o = curve.finite in
    let q = curve.infinite in
    no-system L f o q c.requires.places.orders c.args.places.items c.requires.nonempty
    c.requires.places (λ irreducible. subst (λ t. IsFirstIfAny L f o q t None)
    c.deref.ensures.value (subst (IsFirstIfAny L f o q c.deref.result.now) c.in-Ok-None.field-0-is
    (c.in-Ok-None.ensures.first irreducible)))
