use Rattle.std.proofs.Common.{◌≡◌, ◌+◌, ◌-◌, ◌≤◌}
use Rattle.ff_table.specs.Roots.{search, node_count}
use Rattle.ff_ring.specs.Ring.{MeetsRule, table_in}
use Rattle.ff_root.specs.States.{AreStates, states_in}
use Rattle.ff_root.proofs.search.search.Given as goal

abbrev pub invariant-loop-i : goal.invariant-loop-i
invariant-loop-i g l =
    let F = g.K.Ring.elements l.k in
    let S = table_in F l.s in
    record {
      states : AreStates F l.s l.m l.states.items;
      value : MeetsRule F l.s → search F.field S (l.weight + 1 - l.i)
          (states_in F l.s l.states.items)
          ≡ search F.field S (l.weight + 1) (states_in F l.s l.fn.states.items);
      nodes : l.fn.nodes ≤ l.nodes;
      count : MeetsRule F l.s → l.nodes
          + node_count F.field S (l.weight + 1 - l.i) (states_in F l.s l.states.items)
          ≤ l.fn.nodes + node_count F.field S (l.weight + 1) (states_in F l.s l.fn.states.items);
    }
