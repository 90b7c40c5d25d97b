use Rattle.std.proofs.Common.{subst, IfSome}
use Rattle.ff_theory.proofs.Results.{ok_map, ok_both}
use Rattle.ff_data.specs.declared.system.System.{System}
use Rattle.ff_forms.specs.Forms.{HasFunctionsForm, AreAlike}
use Rattle.ff_functions.specs.Answers.{AreFunctionsAt}
use Rattle.ff_poles.proofs.SystemAnswers.{system_up_to, described_at}
use Rattle.ff_forms.specs.declared.functions.TheConstants.{POLE_LIMIT}
use Rattle.ff_ring.specs.Ring.{HasTable}
use Rattle.ff_describe.specs.Described.{IsDescribed}
use Rattle.ff_poles.proofs.DescribedLemmas.{described-tables}
use Rattle.ff_poles.proofs.find.find_system.Goals as goal

pub returns-in-Some-clause-ring : goal.returns-in-Some-clause-ring
returns-in-Some-clause-ring g c =
    let F = g.K.Ring.elements c.args.alg.now.k in
    let L = g.K.Ring.lawful c.args.alg.now.k in
    let f = c.args.alg.now.f in
    ok_map (λ o. IfSome o (IsDescribed L f POLE_LIMIT)) (λ o. IfSome o (HasTable F))
    c.describe.result (described-tables L f POLE_LIMIT) c.describe.ensures.described

pub returns-in-None-clause-exact : goal.returns-in-None-clause-exact
returns-in-None-clause-exact g c = λ place h.
    let L = g.K.Ring.lawful c.args.alg.now.k in
    let f = c.args.alg.now.f in
    let o = c.args.order.now in
    let p = c.args.point.now in
    let other = c.args.other.now in
    let alike : System → Type 0 = λ s. IfSome c.args.like (λ t. AreAlike s t.now) in
    subst (AreFunctionsAt L f o p other alike POLE_LIMIT) c.in-None.is
    (c.in_ok-functions_at.ensures.exact place) (system_up_to L f o p other POLE_LIMIT alike h)

pub returns-in-Some-clause-exact : goal.returns-in-Some-clause-exact
returns-in-Some-clause-exact g c = λ place.
    let F = g.K.Ring.elements c.args.alg.now.k in
    let L = g.K.Ring.lawful c.args.alg.now.k in
    let f = c.args.alg.now.f in
    let o = c.args.order.now in
    let p = c.args.point.now in
    let other = c.args.other.now in
    let alike : System → Type 0 = λ s. IfSome c.args.like (λ t. AreAlike s t.now) in
    let form = subst (λ r. IfSome r (HasFunctionsForm L f)) c.in-Some.is
    c.in_ok-functions_at.ensures.form in
    ok_both _ _ _ c.describe.result (described_at F L (g.met.K.FiniteField.onto c.args.alg.now.k) f
    c.args.alg.now.plane c.args.alg.now.has_y o p other place POLE_LIMIT alike c.in-Some.functions
    (subst (AreFunctionsAt L f o p other alike POLE_LIMIT) c.in-Some.is
    (c.in_ok-functions_at.ensures.exact place)) form.weights form.e) c.describe.ensures.system
    c.describe.ensures.none
