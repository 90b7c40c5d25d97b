use Rattle.std.proofs.Common.{arith}
use Rattle.ff_list.proofs.search.search_slope.Goals as goal

pub loop-j-init : goal.loop-j-init
loop-j-init g c = record {
  list = c.requires.list;
  tests = omega arith;
  nodes = omega arith;
}

pub search_line-requires : goal.search_line-requires
search_line-requires g c = record {
  field = c.requires.field;
  systems = c.requires.systems;
  choice = record {
    alpha = c.requires.alpha;
    nonzero = c.requires.nonzero;
    beta = c.nth-beta.ensures.element;
  };
  list = c.loop-j.invariant.list;
}

pub loop-j-preserved : goal.loop-j-preserved
loop-j-preserved g c = record {
  list = c.in_ok-search_line.ensures.list;
  tests = omega (arith, c.loop-j.invariant.tests, c.in_ok-search_line.ensures.tests);
  nodes = omega (arith, c.loop-j.invariant.nodes, c.in_ok-search_line.ensures.nodes);
}

pub returns : goal.returns
returns g c = record {
  list = c.loop-j.invariant.list;
  tests = c.loop-j.invariant.tests;
  nodes = c.loop-j.invariant.nodes;
}
