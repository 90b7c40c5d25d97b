use Rattle.std.proofs.Common.{◌≡◌, drop}
use Rattle.ff_elem.specs.Key.{key_cmp}
use Rattle.ff_points.specs.PointLists.{indices_of}
use Rattle.ff_points.proofs.keys.compare_values.Given as goal

abbrev pub invariant-loop-i : goal.invariant-loop-i
invariant-loop-i g l =
    let F = g.K.Ring.elements l.k in
    key_cmp (indices_of F (drop l.i l.v)) (indices_of F (drop l.i l.w))
    ≡ key_cmp (indices_of F l.v) (indices_of F l.w)
