use Rattle.std.proofs.Common.{◌≡◌, ◌*◌, max, drop}
use Rattle.ff_table.specs.Roots.{top_weight}
use Rattle.ff_ring.specs.Ring.{MeetsRule, table_in, elements_in}
use Rattle.ff_root.proofs.leading.top_weight.Given as goal

abbrev pub invariant-loop-i : goal.invariant-loop-i
invariant-loop-i g l =
    let F = g.K.Ring.elements l.k in
    let S = table_in F l.s in
    MeetsRule F l.s → max l.n
    (top_weight F.ring S l.t (l.i * l.t) (elements_in F l.s (drop l.i l.p)))
    ≡ top_weight F.ring S l.t 0 (elements_in F l.s l.p)
