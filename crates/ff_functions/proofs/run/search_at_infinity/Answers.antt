use Rattle.std.proofs.Common.{◌≡◌, refl, sym, ◌∙◌, subst, IfSome}
use Rattle.ff_data.specs.declared.order.Chart.TheVariants.{Finite, Infinite}
use Rattle.ff_forms.specs.Forms.{AreAlike}
use Rattle.ff_forms.specs.declared.functions.TheConstants.{POLE_LIMIT}
use Rattle.ff_functions.specs.Answers.{IsAnswerAt}
use Rattle.ff_functions.proofs.run.search_at_infinity.Goals as goal

pub search_within-requires : goal.search_within-requires
search_within-requires g c = record {
  order = c.requires.order;
  finite = c.requires.other;
  infinite = c.requires.order;
  own = λ e. let k : Finite ≡ Infinite = sym e ∙ c.requires.chart in absurd (cc);
  own_infinite = λ _. refl;
  point = c.requires.point;
  like = c.requires.like;
  bound = c.loop-bound.invariant.within;
}

pub returns-in-Differs-clause-exact : goal.returns-in-Differs-clause-exact
returns-in-Differs-clause-exact g c = λ place.
    subst (IsAnswerAt (g.K.Ring.lawful c.args.alg.now.k) c.args.alg.now.f c.args.order.now
    c.args.point.now c.args.other.now (λ s. IfSome c.args.like (λ t. AreAlike s t.now))
    c.loop-bound.bound) c.in-Differs.is
    (c.in_ok-functions.ensures.at_infinity c.requires.chart place) POLE_LIMIT
