use Rattle.ff_list.proofs.search.search_alike.Goals as goal

pub search_system-requires : goal.search_system-requires
search_system-requires g c = record {
  field = c.requires.field;
  systems = record {
    known = c.requires.known;
    system = c.requires.system;
    alike = c.alike.ensures.0 c.if-not-alike.false;
  };
  list = c.requires.list;
}
