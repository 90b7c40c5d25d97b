use Rattle.std.proofs.Common.{subst, IfSome}
use Rattle.ff_forms.specs.Forms.{AreAlike}
use Rattle.ff_forms.specs.declared.functions.TheConstants.{POLE_LIMIT}
use Rattle.ff_functions.specs.Answers.{IsAnswerAt}
use Rattle.ff_functions.proofs.run.search_at_limit.Goals as goal

pub returns-in-Differs-clause-at_finite : goal.returns-in-Differs-clause-at_finite
returns-in-Differs-clause-at_finite g c = λ chart place.
    subst (IsAnswerAt (g.K.Ring.lawful c.args.alg.now.k) c.args.alg.now.f c.args.order.now
    c.args.point.now c.args.infinite.now (λ s. IfSome c.args.like (λ t. AreAlike s t.now))
    POLE_LIMIT) c.in-Differs.is (c.in_ok-functions.ensures.at_finite chart place) POLE_LIMIT

pub returns-in-Differs-clause-at_infinity : goal.returns-in-Differs-clause-at_infinity
returns-in-Differs-clause-at_infinity g c = λ chart place.
    subst (IsAnswerAt (g.K.Ring.lawful c.args.alg.now.k) c.args.alg.now.f c.args.order.now
    c.args.point.now c.args.finite.now (λ s. IfSome c.args.like (λ t. AreAlike s t.now))
    POLE_LIMIT) c.in-Differs.is (c.in_ok-functions.ensures.at_infinity chart place) POLE_LIMIT
