use Rattle.std.proofs.Common.{sym, subst}
use Rattle.ff_list.specs.Searches.{AreSlopes}
use Rattle.ff_list.proofs.search.search_system.Goals as goal

pub search_slopes-requires : goal.search_slopes-requires
search_slopes-requires g c = record {
  field = c.requires.field;
  systems = c.requires.systems;
  slopes = subst (AreSlopes (g.K.Ring.elements c.args.alg2.now.k)) (sym c.deref.ensures.value)
      c.in_ok-slopes.ensures;
  list = c.requires.list;
}
