use Rattle.ff_list.proofs.choice.keep_tested.Goals as goal

pub insert-requires : goal.insert-requires
insert-requires g c = record {
  list = c.requires.list;
  entry = c.requires.entry c.if-inverse.true;
}
