use Rattle.std.proofs.Common.{take}
use Rattle.ff_match.specs.Candidates.{AreCandidatesOf}
use Rattle.ff_match.proofs.search.all_candidates.Given as goal

abbrev pub invariant-loop-i : goal.invariant-loop-i
invariant-loop-i g l = AreCandidatesOf (g.K.Ring.lawful l.alg2.k) l.alg2.f l.s1 l.s2 l.r l.alpha
    l.beta (take l.i l.roots) l.items.items
