use Rattle.std.proofs.Common.{◌≡◌, ◌*◌, length, subst, arith}
use Rattle.ff_data.specs.Orders.{y_degree}
use Rattle.ff_functions.specs.Searches.{AreRows, HoldNumerators}
use Rattle.ff_functions.proofs.frame.Frame.start.Goals as goal

pub with_numerator-requires : goal.with_numerator-requires
with_numerator-requires g c = record {
  d = c.requires.d;
  nonzero = c.requires.nonzero;
  form = c.requires.form;
  index = omega (arith, c.loop-i-test.true);
  rows = c.loop-i.invariant.rows;
}

pub loop-i-init : goal.loop-i-init
loop-i-init g c = record {
  rows = c.in_ok-echelon.ensures.rows;
  held = c.in_ok-echelon.ensures.held c.args.d.now;
}

pub loop-i-preserved : goal.loop-i-preserved
loop-i-preserved g c = record {
  rows = c.in_ok-echelon-2.ensures.rows;
  held = c.in_ok-echelon-2.ensures.held c.args.infinite.now c.loop-i.invariant.held;
}

pub returns : goal.returns
returns g c =
    let F = g.K.Ring.elements c.args.alg.now.k in
    let L = g.K.Ring.lawful c.args.alg.now.k in
    let s = c.args.self.now in
    let e : c.loop-i.i ≡ length s.numerators.items =
    omega (arith, c.loop-i-test.false, c.loop-i.auto.i-end) in
    record {
      rows = subst (λ m. AreRows F (y_degree L c.args.alg.now.f * s.h) m
          c.loop-i.echelon.rows.items) e c.loop-i.invariant.rows;
      held = subst (λ m. HoldNumerators L c.args.alg.now.f s c.args.d.now c.args.infinite.now m
          c.loop-i.echelon.rows.items) e c.loop-i.invariant.held;
    }
