use Rattle.std.proofs.Common.{All, pred, length, sym, ◌∙◌, ap, subst}
use Rattle.ff_elem.specs.Elem.{elem_of, IsElem}
use Rattle.ff_data.specs.Orders.{y_degree}
use Rattle.ff_data.specs.Vectors.{IsPlaneWithin}
use Rattle.ff_frac.specs.Shrinking.{AreBasisPlanes}
use Rattle.ff_frac.proofs.shrink.shrunk.Goals as goal

pub divided-requires : goal.divided-requires
divided-requires g c =
    let F = g.K.Ring.elements c.args.alg.now.k in
    let L = g.K.Ring.lawful c.args.alg.now.k in
    record {
      order = c.requires.order;
      planes = subst (All (IsPlaneWithin F (y_degree L c.args.alg.now.f)))
          (sym c.deref.ensures.value) c.in_ok-planes.ensures.planes;
      basis = subst (AreBasisPlanes F (y_degree L c.args.alg.now.f)
          (pred (length c.args.order.now.d)) c.args.order.now.space.basis)
          (sym c.deref.ensures.value) c.in_ok-planes.ensures.value;
    }

pub returns-clause-form : goal.returns-clause-form
returns-clause-form g c =
    let L = g.K.Ring.lawful c.args.alg.now.k in
    let f = c.args.alg.now.f in
    let h = c.in_ok-d.ensures.lattice in
    let e = c.in_ok-theta.ensures in
    record {
      theta = subst (IsElem L f) (sym e) c.requires.order.theta;
      theta_is = ap (elem_of L f) e ∙ c.requires.order.theta_is;
      d = h.poly;
      modulus = h.modulus;
      space = h.space;
    }

pub returns-clause-same : goal.returns-clause-same
returns-clause-same g c = c.in_ok-d.ensures.same
