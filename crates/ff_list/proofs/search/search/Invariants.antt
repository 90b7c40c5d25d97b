use Rattle.std.proofs.Common.{◌≤◌}
use Rattle.ff_list.specs.Lists.{IsTrueList}
use Rattle.ff_list.proofs.search.search.Given as goal

abbrev pub invariant-loop-i : goal.invariant-loop-i
invariant-loop-i g l =
    let c = l.curve in
    record {
      list : IsTrueList (g.K.Ring.lawful c.alg.k) l.alg1.f c.alg.f l.hits.list.items;
      tests : l.fn.tests ≤ l.tests;
      nodes : l.fn.nodes ≤ l.nodes;
    }
