use Rattle.std.proofs.Common.{length, subst}
use Rattle.ff_data.specs.declared.order.Order.{Order}
use Rattle.ff_functions.specs.Searches.{HasTrailForm}
use Rattle.ff_functions.proofs.assembly.function.Goals as goal

pub finite_function-requires : goal.finite_function-requires
finite_function-requires g c =
    let L = g.K.Ring.lawful c.args.alg.now.k in
    let trail = c.args.trail.now in
    let m = length trail.passed.items in
    record {
      order = c.requires.order;
      frame = c.requires.frame;
      trail = subst (λ (o : Order). HasTrailForm L c.args.alg.now.f o m m trail)
          (c.requires.own c.in-Finite.is) c.requires.trail;
      number = c.requires.number;
    }

pub infinite_function-requires : goal.infinite_function-requires
infinite_function-requires g c = record {
  order = c.requires.order;
  frame = c.requires.frame;
  number = c.requires.number.relation;
}
