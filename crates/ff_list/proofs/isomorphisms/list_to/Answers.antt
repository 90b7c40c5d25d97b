use Rattle.std.proofs.Common.{sym, subst}
use Rattle.ff_list.specs.Searches.{ArePlaces}
use Rattle.ff_list.proofs.isomorphisms.list_to.Goals as goal

pub list_at-requires : goal.list_at-requires
list_at-requires g c =
    let curve = c.args.curve.now in
    let L = g.K.Ring.lawful curve.alg.k in
    record {
      field = c.requires.field;
      known = c.requires.known;
      places = subst (ArePlaces L curve.alg.f curve.finite curve.infinite)
          (sym c.deref.ensures.value) c.in_ok-places.ensures;
    }
