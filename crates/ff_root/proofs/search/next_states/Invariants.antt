use Rattle.std.proofs.Common.{◌≡◌, ◌+◌, ◌≤◌, ◌++◌, length}
use Rattle.ff_table.specs.Roots.{next_states}
use Rattle.ff_ring.specs.Ring.{MeetsRule, table_in}
use Rattle.ff_root.specs.States.{AreStates, states_in}
use Rattle.ff_root.proofs.SearchLemmas.{next_rest}
use Rattle.ff_root.proofs.search.next_states.Given as goal

abbrev pub invariant-loop-i : goal.invariant-loop-i
invariant-loop-i g l =
    let F = g.K.Ring.elements l.k in
    let S = table_in F l.s in
    record {
      states : AreStates F l.s l.m l.items.items;
      value : MeetsRule F l.s → states_in F l.s l.items.items ++ next_rest F l.s l.t l.states l.i
          ≡ next_states F.field S l.t (states_in F l.s l.states);
      nodes : l.fn.nodes ≤ l.nodes;
      count : MeetsRule F l.s → l.nodes + length (next_rest F l.s l.t l.states l.i)
          ≤ l.fn.nodes + length (next_states F.field S l.t (states_in F l.s l.states));
    }
