use Rattle.std.proofs.Common.{◌≡◌, get_or, []}
use Rattle.ff_theory.specs.Values.{plane_of, IsPlane}
use Rattle.ff_subst.specs.Columns.{plane_combination, constant_after}
use Rattle.ff_subst.proofs.cleared.combination.Given as goal

abbrev pub invariant-loop-j : goal.invariant-loop-j
invariant-loop-j g l = record {
  plane : IsPlane (g.K.Ring.elements l.k) l.sum;
  value : plane_of (g.K.Ring.elements l.k) l.sum
      ≡ plane_combination (g.K.Ring.elements l.k).ring l.j
      (λ j. constant_after (g.K.Ring.elements l.k) l.p l.i j)
      (λ j. plane_of (g.K.Ring.elements l.k) (get_or l.planes j []));
}
