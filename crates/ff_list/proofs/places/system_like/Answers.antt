use Rattle.ff_list.proofs.places.system_like.Goals as goal

pub system_at-requires : goal.system_at-requires
system_at-requires g c = record {
  orders = c.requires.orders;
  point = c.requires.point;
  like = c.requires.like;
}

pub returns : goal.returns
returns g c = c.system_at.ensures.form
