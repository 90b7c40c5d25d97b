use Rattle.ff_list.proofs.places.joined.Goals as goal

pub returns : goal.returns
returns c = c.in_ok-append.ensures.items
