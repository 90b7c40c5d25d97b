use Rattle.std.proofs.Common.{◌≤◌, All, vec_len}
use Rattle.ff_forms.specs.Forms.{HasCandidateForm}
use Rattle.ff_list.specs.Lists.{IsTrueList}
use Rattle.ff_list.proofs.choice.keep_each.Given as goal

abbrev pub invariant-loop-c : goal.invariant-loop-c
invariant-loop-c g l =
    let L = g.K.Ring.lawful l.alg2.k in
    record {
      rest : All (HasCandidateForm L l.alg2.f l.s2) l.rest.items;
      list : IsTrueList L l.alg1.f l.alg2.f l.list.items;
      tests : l.fn.tests ≤ l.tests;
    }

abbrev pub decreases-loop-c : goal.decreases-loop-c
decreases-loop-c g l = vec_len l.rest
