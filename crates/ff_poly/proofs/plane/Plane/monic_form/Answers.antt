use Rattle.std.proofs.Common.{length, sym, ap, subst, arith}
use Rattle.ff_theory.specs.Values.{IsPlane, x_size}
use Rattle.ff_poly.proofs.plane.Plane.monic_form.Goals as goal

pub monic_degree-deg-requires : goal.monic_degree-deg-requires
monic_degree-deg-requires g c =
    let K = g.K.Ring.elements c.args.k.now in
    let e = c.rows.ensures in
    record {
      plane = subst (IsPlane K) (sym e) c.requires.plane;
      has_y = omega (arith, ap length e, c.requires.has_y);
      height = omega (arith, ap length e, c.requires.height);
      width = omega (arith, ap x_size e, c.requires.width);
    }

pub monic_rows-requires : goal.monic_rows-requires
monic_rows-requires g c =
    let K = g.K.Ring.elements c.args.k.now in
    let e = c.rows-2.ensures in
    record {
      plane = subst (IsPlane K) (sym e) c.requires.plane;
      has_y = omega (arith, ap length e, c.requires.has_y);
      height = omega (arith, ap length e, c.requires.height);
    }

pub from_vec-requires : goal.from_vec-requires
from_vec-requires g c = c.in_ok-rows.ensures.each
