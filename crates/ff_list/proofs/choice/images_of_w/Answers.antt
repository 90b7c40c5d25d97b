use Rattle.std.proofs.Common.{sym, subst}
use Rattle.ff_theory.specs.Values.{ArePolys}
use Rattle.ff_list.proofs.choice.images_of_w.Goals as goal

pub shifted-requires : goal.shifted-requires
shifted-requires g c = record {
  coeffs = c.requires.systems.known.relation.coeffs;
  alpha = c.requires.choice.alpha;
  beta = c.requires.choice.beta;
}

pub roots-requires : goal.roots-requires
roots-requires g c = record {
  table = c.requires.systems.system.table;
  coeffs = subst (ArePolys (g.K.Ring.elements c.args.alg2.now.k)) (sym c.rows.ensures)
      c.in_ok-coeffs.ensures.each;
}

pub returns : goal.returns
returns g c = record { coords = c.roots.ensures.coords; nodes = c.roots.ensures.nodes }
