use Rattle.std.proofs.Common.{◌≡◌, ◌-◌, ◌<◌, ◌≤◌, length}
use Rattle.std.specs.declared.cmp.Ordering.TheVariants.{Less}
use Rattle.ff_elem.specs.Key.{key_cmp}
use Rattle.ff_data.specs.declared.pair.Entry.{Entry}
use Rattle.ff_data.specs.Lists.{pair_key, key_at}
use Rattle.ff_list.proofs.entry.index_of.Given as goal

abbrev pub invariant-loop-low : goal.invariant-loop-low
invariant-loop-low g l =
    let F = g.K.Ring.elements l.alg.k in
    record {
      low : l.low ≤ l.high;
      high : l.high ≤ length l.list;
      after : (d : Entry) → 0 < l.low
          → key_cmp (key_at F l.list (l.low - 1) d) (pair_key F l.pair) ≡ Less;
      before : (d : Entry) → l.high < length l.list
          → key_cmp (pair_key F l.pair) (key_at F l.list l.high d) ≡ Less;
    }

abbrev pub decreases-loop-low : goal.decreases-loop-low
decreases-loop-low g l = l.high - l.low
