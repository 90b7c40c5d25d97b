use Rattle.std.proofs.Common.{◌≡◌, refl, sym, ◌∙◌}
use Rattle.ff_data.specs.declared.order.Chart.TheVariants.{Finite, Infinite}
use Rattle.ff_functions.proofs.run.functions_at.Goals as goal

pub search_at_limit-requires : goal.search_at_limit-requires
search_at_limit-requires g c = record {
  order = c.requires.order;
  finite = c.requires.order;
  infinite = c.requires.other;
  own = λ _. refl;
  own_infinite = λ e. let k : Finite ≡ Infinite = sym c.in-Finite.is ∙ e in absurd (cc);
  point = c.requires.point;
  like = c.requires.like;
}

pub search_at_infinity-requires : goal.search_at_infinity-requires
search_at_infinity-requires g c = record {
  order = c.requires.order;
  other = c.requires.other;
  chart = c.in-Infinite.is;
  point = c.requires.point;
  like = c.requires.like;
}
