use Rattle.ff_list.proofs.starts.parts_of.Goals as goal

pub returns : goal.returns
returns g c = record {
  sep1 = c.requires.sep1;
  orders1 = c.requires.places.orders;
  sep2 = c.requires.sep2;
  orders2 = c.requires.orders2;
  point = c.point_of-point.ensures.point;
  system = c.requires.start.system;
  gaps = c.requires.start.gaps;
  kept = λ irreducible. record {
    list = c.args.start.places.items;
    ordered = c.requires.places.ordered;
    index = c.args.start.index;
    first = c.requires.first irreducible;
    point = c.point_of-point.ensures.at;
  };
}
