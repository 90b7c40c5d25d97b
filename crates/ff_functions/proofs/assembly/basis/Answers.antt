use Rattle.std.proofs.Common.{◌≡◌, subst, arith}
use Rattle.ff_functions.specs.Combined.{AreClassFunctions}
use Rattle.ff_functions.proofs.FunctionLists.{functions_more}
use Rattle.ff_functions.proofs.assembly.basis.Goals as goal

pub with_function-requires : goal.with_function-requires
with_function-requires g c = record {
  order = c.requires.order;
  own = c.requires.own;
  frame = c.requires.frame;
  found = c.requires.found;
  positive = c.requires.positive;
  class = c.requires.classes c.loop-i.i c.loop-i-test.true;
  list = c.loop-i.invariant.elems;
}

pub loop-i-init : goal.loop-i-init
loop-i-init g c = record {
  elems = c.in_ok-list.ensures.elems;
  count = c.in_ok-list.ensures.count;
  functions = record {
    one = c.in_ok-list.ensures.one;
    each = λ i q l. absurd (omega (arith, q, l));
  };
}

pub loop-i-preserved : goal.loop-i-preserved
loop-i-preserved g c = record {
  elems = c.in_ok-list-2.ensures.elems;
  count = omega (arith, c.in_ok-list-2.ensures.count, c.loop-i.invariant.count);
  functions = functions_more (g.K.Ring.lawful c.args.alg.now.k) c.args.alg.now.f
      c.args.order.now.chart c.args.finite.now.d c.args.frame.now c.args.search.now c.args.e
      c.loop-i.i c.loop-i.list.items c.in_ok-list-2.list.items (omega (arith, c.loop-i.auto))
      c.loop-i.invariant.count c.loop-i.invariant.functions c.in_ok-list-2.ensures.grown;
}

pub returns : goal.returns
returns g c =
    let L = g.K.Ring.lawful c.args.alg.now.k in
    let end : c.loop-i.i ≡ c.args.e = omega (
      arith,
      c.loop-i-test.false,
      c.loop-i.auto.i-end (omega (arith, c.requires.positive)),
    ) in
    record {
      elems = c.loop-i.invariant.elems;
      count = omega (arith, c.loop-i.invariant.count, end);
      functions = subst (λ n. AreClassFunctions L c.args.alg.now.f c.args.order.now.chart
          c.args.finite.now.d c.args.frame.now c.args.search.now c.args.e n c.loop-i.list.items)
          end c.loop-i.invariant.functions;
    }
