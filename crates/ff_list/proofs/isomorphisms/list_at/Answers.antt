use Rattle.ff_list.proofs.RisingLists.{empty-true}
use Rattle.ff_list.proofs.isomorphisms.list_at.Goals as goal

pub search-requires : goal.search-requires
search-requires g c =
    let curve = c.args.curve.now in
    record {
      field = c.requires.field;
      known = c.requires.known;
      places = c.requires.places;
      list = empty-true (g.K.Ring.lawful curve.alg.k) c.args.alg1.now.f curve.alg.f
          c.in_ok-hits.hits.list.items c.in_ok-hits.ensures;
    }
