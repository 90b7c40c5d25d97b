use Rattle.std.proofs.Common.{◌+◌, ◌≤◌, ◌∙◌, ap, length, pred, sym, subst, arith, IfSome}
use Rattle.ff_theory.proofs.Results.{ok_both}
use Rattle.ff_data.specs.declared.order.Order.{Order}
use Rattle.ff_data.proofs.NumeratorLemmas.{order_length}
use Rattle.ff_forms.specs.Forms.{AreAlike}
use Rattle.ff_functions.specs.Elements.{HasFrameElements}
use Rattle.ff_functions.specs.Searches.{AgreesAt, IsBegun}
use Rattle.ff_functions.specs.Answers.{IsAnswerOf}
use Rattle.ff_functions.proofs.PlaceAnswers.{option_alike, finite_chart}
use Rattle.ff_functions.proofs.PlaceAnswers.{finite_answer, infinite_answer}
use Rattle.ff_functions.proofs.run.search_within.Goals as goal

pub reach-requires : goal.reach-requires
reach-requires g c =
    let F = g.K.Ring.elements c.args.alg.now.k in
    let L = g.K.Ring.lawful c.args.alg.now.k in
    order_length F L c.args.alg.now.f c.args.alg.now.plane c.args.alg.now.has_y
    c.args.infinite.now c.requires.infinite

pub first_search-requires : goal.first_search-requires
first_search-requires g c = record {
  order = c.requires.order;
  finite = c.requires.finite;
  infinite = c.requires.infinite;
  point = c.requires.point;
  frame = c.in_ok-frame.ensures.form;
  room = omega (arith, c.in_ok-m.ensures.least, c.in_ok-frame.ensures.rows);
}

pub run-requires : goal.run-requires
run-requires g c = record {
  order = c.requires.order;
  frame = c.in_ok-frame.ensures.form;
  like = c.requires.like;
  bound = c.requires.bound;
  room = λ e. omega (
    arith,
    c.in_ok-m.ensures.room e,
    c.in_ok-frame.ensures.rows,
    ap (λ (o : Order). pred (length o.d)) (c.requires.own_infinite e),
  );
  form = c.in_ok-search.ensures.form;
}

pub answer-requires : goal.answer-requires
answer-requires g c = record {
  order = c.requires.finite;
  own = c.requires.own;
  frame = c.in_ok-frame.ensures.form;
  outcome = c.in_ok-outcome.ensures.form;
}

pub returns-clause-at_finite : goal.returns-clause-at_finite
returns-clause-at_finite g c = λ chart place.
    let F = g.K.Ring.elements c.args.alg.now.k in
    let L = g.K.Ring.lawful c.args.alg.now.k in
    let f = c.args.alg.now.f in
    let o = c.args.order.now in
    let p = c.args.point.now in
    let infinite = c.args.infinite.now in
    let s = c.in_ok-frame.frame in
    let m = c.in_ok-m.m in
    let own = sym (c.requires.own chart) in
    ok_both _ _ _ c.answer.result (λ a of form. finite_answer F L f c.args.alg.now.plane
    c.args.alg.now.has_y o p infinite place s c.in_ok-frame.ensures.form c.args.bound m
    (λ t. IfSome c.args.like (λ w. AreAlike t w.now))
    (λ j b. IfSome c.args.like (λ w. AgreesAt w.now j b)) (option_alike (λ w. w.now) c.args.like)
    c.in_ok-search.search c.in_ok-outcome.outcome a c.in_ok-outcome.ensures.held form chart
    (subst (λ (x : Order). HasFrameElements L f s x m) own (c.in_ok-frame.ensures.elements
    (ap (λ (x : Order). x.chart) own ∙ chart)))
    (subst (λ (x : Order). IsBegun L f o p s x.d infinite c.in_ok-search.search) own
    c.in_ok-search.ensures.begun) c.in_ok-m.ensures.least
    (omega (arith, c.in_ok-m.ensures.least, c.in_ok-frame.ensures.rows))
    (subst (λ (x : Order). IsAnswerOf L f o.chart x.d s c.in_ok-outcome.outcome a) own of))
    c.answer.ensures.exact c.answer.ensures.form

pub returns-clause-at_infinity : goal.returns-clause-at_infinity
returns-clause-at_infinity g c = λ chart place.
    let F = g.K.Ring.elements c.args.alg.now.k in
    let L = g.K.Ring.lawful c.args.alg.now.k in
    let f = c.args.alg.now.f in
    let o = c.args.order.now in
    let p = c.args.point.now in
    let finite = c.args.finite.now in
    let s = c.in_ok-frame.frame in
    let m = c.in_ok-m.m in
    let own = c.requires.own_infinite chart in
    let far : pred (length o.d) + c.args.bound ≤ m = omega (
      arith,
      c.in_ok-m.ensures.room chart,
      ap (λ (x : Order). pred (length x.d)) own,
    ) in
    ok_both _ _ _ c.answer.result (λ a of form. infinite_answer F L f c.args.alg.now.plane
    c.args.alg.now.has_y o p finite place s c.in_ok-frame.ensures.form c.args.bound m
    (λ t. IfSome c.args.like (λ w. AreAlike t w.now))
    (λ j b. IfSome c.args.like (λ w. AgreesAt w.now j b)) (option_alike (λ w. w.now) c.args.like)
    c.in_ok-search.search c.in_ok-outcome.outcome a c.in_ok-outcome.ensures.held form chart
    (c.in_ok-frame.ensures.elements (finite_chart o.chart finite.chart place.charts chart))
    (subst (λ (x : Order). IsBegun L f o p s finite.d x c.in_ok-search.search) (sym own)
    c.in_ok-search.ensures.begun) far (omega (arith, far, c.in_ok-frame.ensures.rows)) of)
    c.answer.ensures.exact c.answer.ensures.form
