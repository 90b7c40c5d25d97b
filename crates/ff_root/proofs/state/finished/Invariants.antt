use Rattle.std.proofs.Common.{◌≡◌, ◌++◌, All}
use Rattle.ff_table.specs.Roots.{finished}
use Rattle.ff_data.specs.Systems.{AreCoords}
use Rattle.ff_ring.specs.Ring.{MeetsRule, table_in, elements_in}
use Rattle.ff_root.specs.States.{states_in}
use Rattle.ff_root.proofs.SearchLemmas.{finished_rest}
use Rattle.ff_root.proofs.state.finished.Given as goal

abbrev pub invariant-loop-i : goal.invariant-loop-i
invariant-loop-i g l =
    let F = g.K.Ring.elements l.k in
    record {
      coords : All (AreCoords F l.s) l.sums.items;
      value : MeetsRule F l.s → elements_in F l.s l.sums.items ++ finished_rest F l.s l.states l.i
          ≡ finished F.field (table_in F l.s) (states_in F l.s l.states);
    }
