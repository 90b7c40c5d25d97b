use Rattle.std.proofs.Common.{All, sym, subst}
use Rattle.ff_data.specs.Pairs.{IsPair}
use Rattle.ff_list.specs.Searches.{BelongsAt}
use Rattle.ff_list.proofs.entry.insert.Goals as goal

pub index_of-requires : goal.index_of-requires
index_of-requires g c =
    let alg = c.args.alg2.now in
    record {
      list = subst (All (λ e. IsPair (g.K.Ring.lawful alg.k) alg.f e.pair))
          (sym c.deref.ensures.value) (λ k d l. (c.requires.list.each k d l).pair);
      pair = c.requires.entry.pair;
    }

pub insert_at-requires : goal.insert_at-requires
insert_at-requires g c = record {
  list = c.requires.list;
  entry = c.requires.entry;
  place = subst (λ l. BelongsAt (g.K.Ring.elements c.args.alg2.now.k) l c.args.entry.pair
      c.in-Some.i) c.deref.ensures.value c.in-Some.ensures;
}
