use Rattle.std.proofs.Common.{◌≤◌}
use Rattle.ff_list.specs.Lists.{IsTrueList}
use Rattle.ff_list.proofs.search.search_slopes.Given as goal

abbrev pub invariant-loop-i : goal.invariant-loop-i
invariant-loop-i g l = record {
  list : IsTrueList (g.K.Ring.lawful l.alg2.k) l.alg1.f l.alg2.f l.hits.list.items;
  tests : l.fn.tests ≤ l.tests;
  nodes : l.fn.nodes ≤ l.nodes;
}
