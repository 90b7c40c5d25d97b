use Rattle.std.proofs.Common.{IfSome, subst}
use Rattle.ff_list.specs.Searches.{IsFormed}
use Rattle.ff_list.proofs.search.search_found.Goals as goal

pub search_alike-requires : goal.search_alike-requires
search_alike-requires g c = record {
  field = c.requires.field;
  known = c.requires.known;
  system = subst (λ o. IfSome o (IsFormed (g.K.Ring.lawful c.args.alg2.now.k) c.args.alg2.now.f))
      c.in-Some.is c.requires.system;
  list = c.requires.list;
}
