use Rattle.std.proofs.Common.{◌≡◌, ◌≤◌, length, drop}
use Rattle.ff_theory.specs.Ring.{IsElement}
use Rattle.ff_theory.specs.Eval.{eval_list}
use Rattle.ff_frac.proofs.values.evaluate.Given as goal

abbrev pub invariant-loop-i : goal.invariant-loop-i
invariant-loop-i g l =
    let F = g.K.Ring.elements l.k in
    record {
      below : l.i ≤ length l.coeffs;
      element : IsElement F l.value;
      value : F.value l.value ≡ eval_list F.ring F.value (F.value l.a) (drop l.i l.coeffs);
    }

abbrev pub decreases-loop-i : goal.decreases-loop-i
decreases-loop-i g l = l.i
