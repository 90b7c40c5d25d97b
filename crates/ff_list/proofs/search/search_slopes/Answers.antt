use Rattle.std.proofs.Common.{arith}
use Rattle.ff_list.proofs.search.search_slopes.Goals as goal

pub loop-i-init : goal.loop-i-init
loop-i-init g c = record {
  list = c.requires.list;
  tests = omega arith;
  nodes = omega arith;
}

pub search_slope-requires : goal.search_slope-requires
search_slope-requires g c =
    let a = c.requires.slopes.each c.loop-i.i 0 c.loop-i-test.true in
    record {
      field = c.requires.field;
      systems = c.requires.systems;
      alpha = a.element;
      nonzero = a.nonzero;
      list = c.loop-i.invariant.list;
    }

pub loop-i-preserved : goal.loop-i-preserved
loop-i-preserved g c = record {
  list = c.in_ok-search_slope.ensures.list;
  tests = omega (arith, c.loop-i.invariant.tests, c.in_ok-search_slope.ensures.tests);
  nodes = omega (arith, c.loop-i.invariant.nodes, c.in_ok-search_slope.ensures.nodes);
}

pub returns : goal.returns
returns g c = record {
  list = c.loop-i.invariant.list;
  tests = c.loop-i.invariant.tests;
  nodes = c.loop-i.invariant.nodes;
}
