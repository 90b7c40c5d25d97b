use Rattle.ff_const.proofs.SplitLemmas.{ordered-factors}
use Rattle.ff_const.proofs.factors.factors_of.Goals as goal

pub factors-requires : goal.factors-requires
factors-requires g c = record {
  a = c.requires.w;
  nonzero = c.requires.none.nonzero;
  none = c.requires.none.none;
}

pub ordered-requires : goal.ordered-requires
ordered-requires g c = record {
  g = c.in_ok-g.ensures.factors.first;
  h = c.in_ok-g.ensures.factors.second;
}

pub returns : goal.returns
returns g c =
    let K = g.K.Ring.elements c.args.alg.now.k in
    let L = g.K.Ring.lawful c.args.alg.now.k in
    ordered-factors K L c.args.alg.now.f c.args.w.now.num c.in_ok-g.g c.in_ok-g.h c.ordered.result
    c.in_ok-g.ensures.factors c.ordered.ensures.same c.ordered.ensures.order
