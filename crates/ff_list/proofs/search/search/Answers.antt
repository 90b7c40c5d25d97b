use Rattle.std.proofs.Common.{arith, sym, subst}
use Rattle.ff_list.specs.Searches.{IsPlace}
use Rattle.ff_list.proofs.search.search.Goals as goal

pub loop-i-init : goal.loop-i-init
loop-i-init g c = record {
  list = c.requires.list;
  tests = omega arith;
  nodes = omega arith;
}

pub search_point-requires : goal.search_point-requires
search_point-requires g c =
    let curve = c.args.curve.now in
    record {
      field = c.requires.field;
      known = c.requires.known;
      orders = c.requires.places.orders;
      point = subst (IsPlace (g.K.Ring.elements curve.alg.k) curve.finite curve.infinite)
          (sym c.index-places-i.is)
          (c.requires.places.each c.loop-i.i c.index-places-i.result c.loop-i-test.true);
      list = c.loop-i.invariant.list;
    }

pub loop-i-preserved : goal.loop-i-preserved
loop-i-preserved g c = record {
  list = c.in_ok-search_point.ensures.list;
  tests = omega (arith, c.loop-i.invariant.tests, c.in_ok-search_point.ensures.tests);
  nodes = omega (arith, c.loop-i.invariant.nodes, c.in_ok-search_point.ensures.nodes);
}

pub returns : goal.returns
returns g c = record {
  list = c.loop-i.invariant.list;
  tests = c.loop-i.invariant.tests;
  nodes = c.loop-i.invariant.nodes;
}
