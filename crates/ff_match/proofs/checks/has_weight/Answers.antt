use Rattle.std.proofs.Common.{subst, MatchOption}
use Rattle.std.proofs.lemmas.Bool.{eqb-true}
use Rattle.ff_ring.specs.Weight.{IsTop, AreZero}
use Rattle.ff_match.proofs.CandidateLemmas.{weight-found}
use Rattle.ff_match.proofs.checks.has_weight.Goals as goal

pub returns-in-Some : goal.returns-in-Some
returns-in-Some c =
    let s = c.args.s2.now in
    let a = c.args.c.now in
    λ t. weight-found s a c.in-Some.term c.args.m
    (subst (λ o. MatchOption o (AreZero a) (IsTop s a)) c.in-Some.is c.top.ensures)
    (eqb-true c.in-Some.term.weight c.args.m t)
