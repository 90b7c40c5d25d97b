use Rattle.std.proofs.Common.{ℕ, ◌<◌, get_or}
use Rattle.ff_data.specs.declared.point.Point.{Point}
use Rattle.ff_data.specs.declared.system.System.{System}
use Rattle.ff_const.specs.Irreducible.{IsIrreducible}
use Rattle.ff_list.specs.Lists.{IsSystemOf}
use Rattle.ff_list.proofs.places.first_of.Given as goal

abbrev pub invariant-loop-index : goal.invariant-loop-index
invariant-loop-index g l =
    let L = g.K.Ring.lawful l.curve.alg.k in
    let f = l.curve.alg.f in
    IsIrreducible L f → (j : ℕ) (d : Point) (s : System) → j < l.index
    → ¬ IsSystemOf L f l.curve.finite l.curve.infinite (get_or l.places j d) s
