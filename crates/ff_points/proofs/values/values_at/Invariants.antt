use Rattle.std.proofs.Common.{◌≡◌, All, map, take}
use Rattle.ff_theory.specs.Ring.{IsElement}
use Rattle.ff_theory.specs.Eval.{eval_list}
use Rattle.ff_points.proofs.values.values_at.Given as goal

abbrev pub invariant-loop-p : goal.invariant-loop-p
invariant-loop-p g l =
    let F = g.K.Ring.elements l.k in
    record {
      each : All (IsElement F) l.values.items;
      value : map F.value l.values.items
          ≡ map (eval_list F.ring F.value (F.value l.a)) (take l.p-index l.rows);
    }
