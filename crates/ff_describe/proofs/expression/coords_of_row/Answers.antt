use Rattle.ff_describe.proofs.expression.coords_of_row.Goals as goal

pub returns : goal.returns
returns g c = record {
  q = c.in_ok-q.ensures.poly;
  short = c.in_ok-q.ensures.short;
  value = c.in_ok-q.ensures.value;
  cut = c.in_ok-items.ensures;
}
