use Rattle.std.proofs.Common.{[], ◌∷◌, ◌++◌, take, ◌+◌, sym, ◌∙◌, ap, subst, IfSome}
use Rattle.std.specs.Global.{Vec}
use Rattle.ff_data.specs.declared.search.Candidate.{Candidate}
use Rattle.ff_match.specs.Candidates.{IsCandidateOf, AreCandidatesOf, none}
use Rattle.ff_match.proofs.CandidateLemmas.{one-left_out, one-taken}
use Rattle.ff_match.proofs.search.all_candidates.Goals as goal
use Rattle.ff_match.proofs.search.all_candidates.Goals.{in-Some+in_ok-push-in-Some, in-None}

pub loop-i-init : goal.loop-i-init
loop-i-init g c =
    subst (AreCandidatesOf (g.K.Ring.lawful c.args.alg2.now.k) c.args.alg2.now.f c.args.s1.now
    c.args.s2.now c.args.r.now c.args.alpha c.args.beta []) (sym c.new-items.ensures.items) none

pub loop-i-preserved : goal.loop-i-preserved
loop-i-preserved g c =
    let L = g.K.Ring.lawful c.args.alg2.now.k in
    let f = c.args.alg2.now.f in
    let s1 = c.args.s1.now in
    let s2 = c.args.s2.now in
    let r = c.args.r.now in
    let alpha = c.args.alpha in
    let beta = c.args.beta in
    let roots = c.args.roots.now in
    let i = c.loop-i.i in
    let old = c.loop-i.items.items in
    let root = c.rows.result.now in
    let x = c.index-roots-i.result in
    let rows = c.rows.ensures in
    let is = c.index-roots-i.is in
    let before = c.loop-i.invariant in
    let items = λ (v : Vec Candidate). v.items in
    let new = c.match-branch-2.items.items in
    elim c.match-branch-2.branch [
      | in-Some+in_ok-push-in-Some w ↦
          one-taken L f s1 s2 r alpha beta roots i root x old new w.in-Some.candidate
          c.loop-i-test.true rows is (◌∙◌ {c = old ++ w.in-Some.candidate ∷ []}
          (ap items w.items-is) w.in_ok-push-in-Some.ensures.items)
          before (subst (λ o. IfSome o (IsCandidateOf L f s1 s2 r alpha beta root)) w.in-Some.is
          c.in_ok-candidate.ensures)
      | in-None w ↦ one-left_out L f s1 s2 r alpha beta roots i root x old new c.loop-i-test.true
          rows is (ap items w.items-is) before
    ]
