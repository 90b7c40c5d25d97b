use Rattle.std.proofs.Common.{◌≡◌, ◌<◌, ◌≤◌, length, get_or}
use Rattle.std.specs.declared.cmp.Ordering.TheVariants.{Less}
use Rattle.ff_elem.specs.Key.{key_cmp}
use Rattle.ff_data.specs.declared.point.Point.{Point}
use Rattle.ff_points.specs.PointLists.{point_key}
use Rattle.ff_points.proofs.keys.place.Given as goal

abbrev pub invariant-loop-i : goal.invariant-loop-i
invariant-loop-i g l =
    let F = g.K.Ring.elements l.k in
    record {
      within : l.i ≤ length l.list;
      before : (d : Point) → l.i < length l.list
          → key_cmp (point_key F l.p) (point_key F (get_or l.list l.i d)) ≡ Less;
    }

abbrev pub decreases-loop-i : goal.decreases-loop-i
decreases-loop-i g l = l.i
