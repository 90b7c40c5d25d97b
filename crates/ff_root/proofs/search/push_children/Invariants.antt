use Rattle.std.proofs.Common.{◌≡◌, ◌+◌, ◌≤◌, ◌++◌, length}
use Rattle.ff_table.specs.Roots.{children}
use Rattle.ff_ring.specs.Ring.{MeetsRule, table_in}
use Rattle.ff_root.specs.States.{AreStates, state_in, states_in}
use Rattle.ff_root.proofs.SearchLemmas.{children_rest}
use Rattle.ff_root.proofs.search.push_children.Given as goal

abbrev pub invariant-loop-i : goal.invariant-loop-i
invariant-loop-i g l =
    let F = g.K.Ring.elements l.k in
    let a = state_in F l.s l.state in
    record {
      states : AreStates F l.s (length l.state.moved) l.list.items;
      value : MeetsRule F l.s → states_in F l.s l.list.items ++ children_rest F l.s l.t a l.i
          ≡ states_in F l.s l.fn.list.items ++ children F.field (table_in F l.s) l.t a;
      nodes : l.fn.nodes ≤ l.nodes;
      count : MeetsRule F l.s → l.nodes + length (children_rest F l.s l.t a l.i)
          ≤ l.fn.nodes + length (children F.field (table_in F l.s) l.t a);
    }
