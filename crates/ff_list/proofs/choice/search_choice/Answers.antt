use Rattle.ff_list.proofs.choice.search_choice.Goals as goal

pub images_of_w-requires : goal.images_of_w-requires
images_of_w-requires g c = record {
  systems = c.requires.systems;
  choice = c.requires.choice;
}

pub keep_candidates-requires : goal.keep_candidates-requires
keep_candidates-requires g c = record {
  field = c.requires.field;
  systems = c.requires.systems;
  choice = c.requires.choice;
  roots = c.in_ok-roots.ensures.coords;
  list = c.requires.list;
}
