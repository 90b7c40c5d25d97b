use Rattle.std.proofs.Common.{inl, inr, refl, sym, ◌∙◌}
use Rattle.ff_const.specs.Keys.{plane_key}
use Rattle.ff_const.proofs.KeyOrder.{greater, greater-not, not-greater}
use Rattle.ff_const.proofs.keys.ordered.Goals as goal

pub returns-then-is_gt : goal.returns-then-is_gt
returns-then-is_gt g c =
    let K = g.K.Ring.elements c.args.k.now in
    record {
      same = inr refl;
      order = not-greater (plane_key K c.args.g) (plane_key K c.args.h)
          (sym c.compare_planes.ensures ∙ greater c.compare_planes.result
          (sym c.is_gt.ensures ∙ c.if-is_gt.true));
    }

pub returns-else-is_gt : goal.returns-else-is_gt
returns-else-is_gt g c =
    let K = g.K.Ring.elements c.args.k.now in
    record {
      same = inl refl;
      order = λ e. greater-not c.compare_planes.result (sym c.is_gt.ensures ∙ c.if-is_gt.false)
          (c.compare_planes.ensures ∙ e);
    }
