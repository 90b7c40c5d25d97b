use Rattle.std.proofs.Common.{ℕ, List, length, sym, ap, subst}
use Rattle.ff_theory.proofs.Results.{ok_both}
use Rattle.ff_forms.specs.declared.functions.Functions.{Functions}
use Rattle.ff_systems.specs.Places.{frame, HasLeastFunctions}
use Rattle.ff_poles.proofs.SystemAnswers.{described_at}
use Rattle.ff_poles.proofs.spaces.described.Goals as goal

pub returns-clause-exact : goal.returns-clause-exact
returns-clause-exact g c =
    let F = g.K.Ring.elements c.args.alg.now.k in
    let L = g.K.Ring.lawful c.args.alg.now.k in
    let f = c.args.alg.now.f in
    let z = c.args.z in
    let b = c.args.b.items in
    let numbers = c.args.numbers.now in
    let weights = c.in_ok-weights.weights.items in
    let same = c.in_ok-weights.ensures in
    let t : Functions = record { e = length numbers; z = z; b = b; weights = weights } in
    ok_both _ _ _ c.describe_within.result (λ r some none o p other place least.
    described_at F L (g.met.K.FiniteField.onto c.args.alg.now.k) f c.args.alg.now.plane
    c.args.alg.now.has_y o p other place c.args.limit (λ s. Unit {0}) t
    (subst (λ (w : List ℕ). HasLeastFunctions L f o p other (frame (length numbers) z b w))
    (sym same) least) (ap length same) c.requires.few r some none)
    c.describe_within.ensures.system c.describe_within.ensures.none
