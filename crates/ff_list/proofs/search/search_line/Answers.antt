use Rattle.ff_list.proofs.search.search_line.Goals as goal

pub fits-requires : goal.fits-requires
fits-requires g c = record {
  first = c.requires.systems.known.system.table;
  second = c.requires.systems.system.table;
  alpha = c.requires.choice.alpha;
  beta = c.requires.choice.beta;
}

pub search_choice-requires : goal.search_choice-requires
search_choice-requires g c = record {
  field = c.requires.field;
  systems = c.requires.systems;
  choice = c.requires.choice;
  list = c.requires.list;
}
