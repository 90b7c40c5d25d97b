use Rattle.ff_list.proofs.search.search_point.Goals as goal

pub system_like-requires : goal.system_like-requires
system_like-requires g c = record {
  orders = c.requires.orders;
  point = c.requires.point;
  like = record {
    positive = c.requires.known.system.limit.positive;
    count = c.requires.known.system.form.weights;
  };
}

pub search_found-outcome-requires : goal.search_found-outcome-requires
search_found-outcome-requires g c = record {
  field = c.requires.field;
  known = c.requires.known;
  system = c.in_ok-found.ensures;
  list = c.requires.list;
}
