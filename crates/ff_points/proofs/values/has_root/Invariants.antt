use Rattle.std.proofs.Common.{◌≡◌, ◌<◌}
use Rattle.ff_theory.specs.Eval.{eval_list}
use Rattle.ff_points.proofs.values.has_root.Given as goal

abbrev pub invariant-loop-i : goal.invariant-loop-i
invariant-loop-i g l =
    let F = g.K.Ring.elements l.k in
    (t : F.carrier) → eval_list F.ring F.value t l.coeffs ≡ F.zero → ¬ (F.index t < l.i)
