use Rattle.std.proofs.Common.{◌∙◌, subst}
use Rattle.ff_data.specs.Systems.{AreOverMonic}
use Rattle.ff_ring.specs.Ring.{HasTable}
use Rattle.ff_match.specs.Candidates.{AreCandidatesOf}
use Rattle.ff_match.proofs.CandidateLemmas.{each-form}
use Rattle.ff_match.proofs.search.candidates.Goals as goal

pub all_candidates-requires-clause-parts : goal.all_candidates-requires-clause-parts
all_candidates-requires-clause-parts g c =
    let e = c.requires.field in
    let s1 = c.args.s1.now in
    let elements = g.K.Ring.elements in
    record {
      first = subst (λ k. HasTable (elements k) s1) e c.requires.table1;
      second = c.requires.table2;
      x = subst (λ k. AreOverMonic (elements k) s1 s1.x) e c.requires.form1.x;
      y = subst (λ k. AreOverMonic (elements k) s1 s1.y) e c.requires.form1.y;
      alike = c.requires.alike;
      relation = c.requires.relation;
      alpha_is = c.requires.alpha;
      nonzero = c.requires.nonzero;
      beta_is = c.requires.beta;
    }

pub returns-clause-forms : goal.returns-clause-forms
returns-clause-forms g c = each-form (g.K.Ring.lawful c.args.alg2.now.k) c.args.alg2.now.f
    c.args.s1.now c.args.s2.now c.args.r.now c.args.alpha c.args.beta c.deref.result.now
    c.in_ok-all_candidates.field-0.items c.in_ok-all_candidates.ensures

pub returns-clause-maps : goal.returns-clause-maps
returns-clause-maps g c =
    subst (λ t. AreCandidatesOf (g.K.Ring.lawful c.args.alg2.now.k) c.args.alg2.now.f c.args.s1.now
    c.args.s2.now c.args.r.now c.args.alpha c.args.beta t c.in_ok-all_candidates.field-0.items)
    (c.deref.ensures.value ∙ c.roots.view_is) c.in_ok-all_candidates.ensures
