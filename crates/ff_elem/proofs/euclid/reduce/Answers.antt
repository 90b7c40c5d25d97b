use Rattle.ff_elem.proofs.EuclidSteps.{step-refl, step-trans}
use Rattle.ff_elem.proofs.euclid.reduce.Goals as goal

pub reduce-init : goal.reduce-init
reduce-init g c = record {
  planes = c.requires.a;
  step = step-refl (g.K.Ring.elements c.args.k.now)
      (g.K.Ring.lawful c.args.k.now) c.args.a c.args.by.now;
}

pub reduce-preserved : goal.reduce-preserved
reduce-preserved g c =
    let e = c.in_ok-rest.ensures in
    record {
      planes = e.planes;
      step = step-trans (g.K.Ring.elements c.args.k.now) (g.K.Ring.lawful c.args.k.now) c.args.a
          c.args.by.now c.reduce.rest c.in_ok-rest.rest c.reduce.invariant.step e.step;
    }
